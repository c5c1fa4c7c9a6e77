use Rattle.std.proofs.Common.{ap, ◌∙◌, List, ℕ}
use Rattle.command_parts.specs.declared.command_parts.status.Status.TheVariants as statuses
use Rattle.command_parts.specs.command_parts.Placed.{image_in}
use Rattle.command_parts.proofs.SeekLemmas.{told_at}
use Rattle.tree_text.specs.TreeObjects.{shown_in}
use Rattle.ntboot_cli.specs.Answer.{shown}
use Rattle.ntboot_cli.proofs.showing.text_of.Goals as goal

pub returns-in-Ok-shown_in : goal.returns-in-Ok-shown_in
returns-in-Ok-shown_in c =
    let is = c.in-Ok-shown_in.ensures.exact
    ∙ ap (λ (b : ℕ). shown_in c.args.form c.in-Ok.sequence b c.in-Ok.root) c.bulk.ensures in
    told_at (image_in c.args.files.now) (shown c.args.form) c.in-Ok.root c.in-Ok.sequence c.in-Ok.version c.done.result
    c.in-Ok.ensures.checks (λ dirty. c.done.ensures ∙ ap (λ (t : List ℕ). record { status = statuses.Done; text = t }) is)
