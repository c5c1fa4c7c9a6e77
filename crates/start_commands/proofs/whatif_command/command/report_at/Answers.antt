use Rattle.std.proofs.Common.{◌≡◌, ap, ◌∙◌, List, ℕ}
use Rattle.std.specs.Option.{option_copied}
use Rattle.command_parts.specs.declared.command_parts.status.Status.TheVariants as statuses
use Rattle.command_parts.specs.command_parts.Placed.{image_in}
use Rattle.command_parts.proofs.SeekLemmas.{told_at}
use Rattle.failure_effects.specs.Effects.{effects_of}
use Rattle.check_text.specs.whatif_text.Lines.{printed_lines}
use Rattle.start_commands.specs.whatif_command.Answer.{answer_at, choice_in}
use Rattle.start_commands.proofs.whatif_command.command.report_at.Goals as goal

pub returns-in-Ok-text_on : goal.returns-in-Ok-text_on
returns-in-Ok-text_on c =
    let form = c.args.form in
    let inputs = c.args.inputs.now in
    let of = option_copied c.args.of in
    let made = c.in-Ok-text_on.ensures in
    let root = c.in-Ok.root-is in
    let version = c.in-Ok.version-is in
    let is : c.in-Ok-text_on.text ≡ printed_lines form (effects_of c.in-Ok.version c.in-Ok.root (choice_in inputs) of) =
    cc in
    told_at (image_in inputs.hive) (answer_at form inputs of) c.in-Ok.root c.in-Ok.field-0-1 c.in-Ok.version c.done.result
    c.in-Ok.ensures.checks (λ dirty. c.done.ensures ∙ ap (λ (t : List ℕ). record { status = statuses.Done; text = t }) is)
