use Rattle.std.proofs.Common.{ap}
use Rattle.command_parts.proofs.SeekLemmas.{seeks_after}
use Rattle.command_words.specs.Views.{whatif_seen}
use Rattle.start_commands.specs.whatif_command.Inputs.{inputs_in}
use Rattle.start_commands.specs.whatif_command.Answer.{question_by, question_on}
use Rattle.start_commands.proofs.whatif_command.command.seek.Goals as goal

pub returns-in-Ok-clause-seeks : goal.returns-in-Ok-clause-seeks
returns-in-Ok-clause-seeks g c =
    let old = g.H.Host.state c.args.host.now in
    let asked = whatif_seen c.args.words in
    let wanted = inputs_in asked old.files in
    seeks_after wanted c.in-Ok.inputs (question_on c.args.form asked c.in-Ok.inputs)
    (question_by c.args.form asked wanted) c.report_on.result old
    (g.H.Host.state c.inputs_in.new.host) (ap (question_by c.args.form asked)) c.in-Ok.ensures.looks c.report_on.ensures
