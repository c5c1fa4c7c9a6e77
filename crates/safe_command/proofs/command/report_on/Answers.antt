use Rattle.std.proofs.Common.{ap, ◌∙◌, List, ℕ}
use Rattle.command_parts.specs.declared.command_parts.status.Status.TheVariants as statuses
use Rattle.command_parts.specs.command_parts.Placed.{image_in}
use Rattle.command_parts.proofs.SeekLemmas.{told_at}
use Rattle.safe_command.specs.Answer.{answer_at}
use Rattle.safe_command.proofs.command.report_on.Goals as goal

pub returns-in-Ok-report_text : goal.returns-in-Ok-report_text
returns-in-Ok-report_text c =
    told_at (image_in c.args.inputs.now.hive) (answer_at c.args.form c.args.inputs.now) c.in-Ok.root c.in-Ok.field-0-1
    c.in-Ok.field-0-2 c.done.result c.in-Ok.ensures.checks
    (λ dirty. c.done.ensures ∙ ap (λ (t : List ℕ). record { status = statuses.Done; text = t }) c.in-Ok-report_text.ensures)
