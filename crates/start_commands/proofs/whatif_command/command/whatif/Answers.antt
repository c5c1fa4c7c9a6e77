use Rattle.command_words.specs.Views.{whatif_seen}
use Rattle.start_commands.specs.whatif_command.Answer.{question_in}
use Rattle.start_commands.proofs.whatif_command.command.whatif.Goals as goal

pub returns-clause-decides : goal.returns-clause-decides
returns-clause-decides g c =
    let old = g.H.Host.state c.args.host.now in
    c.answer.ensures.decides (question_in c.args.form (whatif_seen c.args.words) old.files) old c.seek-told.ensures.seeks
