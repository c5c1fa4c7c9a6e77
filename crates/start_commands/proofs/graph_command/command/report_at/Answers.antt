use Rattle.std.proofs.Common.{◌≡◌, ap, ◌∙◌, List, ℕ}
use Rattle.std.specs.Option.{option_copied}
use Rattle.command_parts.specs.declared.command_parts.status.Status.TheVariants as statuses
use Rattle.command_parts.specs.command_parts.Placed.{image_in}
use Rattle.command_parts.proofs.SeekLemmas.{told_at}
use Rattle.start_commands.specs.graph_command.Answer.{answer_at, text_on}
use Rattle.start_commands.proofs.graph_command.command.report_at.Goals as goal

pub returns-in-Ok-text_on : goal.returns-in-Ok-text_on
returns-in-Ok-text_on c =
    let form = c.args.form in
    let inputs = c.args.inputs.now in
    let of = option_copied c.args.of in
    let made = c.in-Ok-text_on.ensures in
    let root = c.in-Ok.root-is in
    let version = c.in-Ok.version-is in
    let is : c.in-Ok-text_on.text ≡ text_on form of inputs c.in-Ok.version c.in-Ok.root = cc in
    told_at (image_in inputs.hive) (answer_at form of inputs) c.in-Ok.root c.in-Ok.field-0-1 c.in-Ok.version c.done.result
    c.in-Ok.ensures.checks (λ dirty. c.done.ensures ∙ ap (λ (t : List ℕ). record { status = statuses.Done; text = t }) is)
