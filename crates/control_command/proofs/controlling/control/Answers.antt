use Rattle.command_words.specs.Views.{control_seen}
use Rattle.control_command.specs.Answer.{question_in}
use Rattle.control_command.proofs.controlling.control.Goals as goal

pub returns-clause-decides : goal.returns-clause-decides
returns-clause-decides g c =
    let old = g.H.Host.state c.args.host.now in
    c.answer.ensures.decides (question_in c.args.form (control_seen c.args.words) old.files) old c.seek-told.ensures.seeks
