use Rattle.std.proofs.Common.{ap, subst}
use Rattle.std.specs.Prelude.{Ok}
use Rattle.command_parts.specs.command_parts.Leaves.{Looks}
use Rattle.command_parts.proofs.SeekLemmas.{seeks_after}
use Rattle.command_words.specs.Views.{why_seen}
use Rattle.start_commands.specs.start_inputs.Inputs.{StartAsked, inputs_in}
use Rattle.start_commands.specs.why_command.Answer.{question_by, question_on, start_asked}
use Rattle.start_commands.proofs.why_command.command.seek.Goals as goal

pub returns-in-Ok-clause-seeks : goal.returns-in-Ok-clause-seeks
returns-in-Ok-clause-seeks g c =
    let old = g.H.Host.state c.args.host.now in
    let new = g.H.Host.state c.start_inputs.new.host in
    let asked = why_seen c.args.words in
    let wanted = inputs_in (start_asked asked) old.files in
    let looks = subst (λ (a : StartAsked). Looks (inputs_in a old.files) (Ok c.in-Ok.inputs) old new) c.files_of.ensures
    c.in-Ok.ensures.looks in
    seeks_after wanted c.in-Ok.inputs (question_on c.args.form asked c.in-Ok.inputs) (question_by c.args.form asked wanted)
    c.report_on.result old new (ap (question_by c.args.form asked)) looks c.report_on.ensures
