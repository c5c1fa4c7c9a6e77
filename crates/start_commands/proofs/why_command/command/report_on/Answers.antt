use Rattle.std.proofs.Common.{◌≡◌, ap, ◌∙◌, List, ℕ}
use Rattle.command_parts.specs.declared.command_parts.status.Status.TheVariants as statuses
use Rattle.command_parts.specs.command_parts.Placed.{image_in}
use Rattle.command_parts.proofs.SeekLemmas.{told_at}
use Rattle.command_words.specs.Views.{why_seen}
use Rattle.start_commands.specs.why_command.Answer.{answer_at, text_of}
use Rattle.start_commands.proofs.why_command.command.report_on.Goals as goal

pub returns-in-Ok-text_on : goal.returns-in-Ok-text_on
returns-in-Ok-text_on c =
    let form = c.args.form in
    let inputs = c.args.inputs.now in
    let name = (why_seen c.args.words).name in
    let made = c.in-Ok-text_on.ensures in
    let root = c.in-Ok.root-is in
    let version = c.in-Ok.version-is in
    let is : c.in-Ok-text_on.text ≡ text_of form inputs name c.in-Ok.version c.in-Ok.root = cc in
    told_at (image_in inputs.hive) (answer_at form inputs name) c.in-Ok.root c.in-Ok.field-0-1 c.in-Ok.version c.done.result
    c.in-Ok.ensures.checks (λ dirty. c.done.ensures ∙ ap (λ (t : List ℕ). record { status = statuses.Done; text = t }) is)
