use Rattle.std.proofs.Common.{ap, ◌∙◌, List, ℕ}
use Rattle.command_parts.specs.declared.command_parts.status.Status.TheVariants as statuses
use Rattle.command_parts.specs.command_parts.Placed.{image_in}
use Rattle.command_parts.proofs.SeekLemmas.{told_at}
use Rattle.control_command.specs.Answer.{answer_at}
use Rattle.control_command.specs.Report.{report_in}
use Rattle.control_command.proofs.controlling.report_on.Goals as goal

pub returns-in-Ok-report : goal.returns-in-Ok-report
returns-in-Ok-report c =
    let is = c.in-Ok-report.ensures ∙ ap (report_in c.args.form c.in-Ok.root) c.as_slice.ensures in
    told_at (image_in c.args.inputs.now.hive) (answer_at c.args.form c.args.inputs.now) c.in-Ok.root c.in-Ok._sequence
    c.in-Ok._version c.done.result c.in-Ok.ensures.checks
    (λ dirty. c.done.ensures ∙ ap (λ (t : List ℕ). record { status = statuses.Done; text = t }) is)
