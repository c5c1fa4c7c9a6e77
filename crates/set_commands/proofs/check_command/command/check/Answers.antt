use Rattle.command_words.specs.Views.{check_seen}
use Rattle.set_commands.specs.check_command.Answer.{question_in}
use Rattle.set_commands.proofs.check_command.command.check.Goals as goal

pub returns-clause-decides : goal.returns-clause-decides
returns-clause-decides g c =
    let old = g.H.Host.state c.args.host.now in
    c.answer.ensures.decides (question_in c.args.form (check_seen c.args.words) old.files) old c.seek-told.ensures.seeks
