use Rattle.command_words.specs.Views.{key_seen}
use Rattle.key_command.specs.key_command.Answer.{question_in}
use Rattle.key_command.proofs.key_command.command.key.Goals as goal

pub returns-clause-decides : goal.returns-clause-decides
returns-clause-decides g c =
    let old = g.H.Host.state c.args.host.now in
    c.answer.ensures.decides (question_in c.args.form (key_seen c.args.words) old.files) old c.seek-told.ensures.seeks
