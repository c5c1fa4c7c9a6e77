use Rattle.command_parts.specs.declared.command_parts.status.Status.TheVariants as statuses
use Rattle.command_parts.specs.command_parts.Placed.{image_in}
use Rattle.command_parts.proofs.SeekLemmas.{told_at}
use Rattle.services_command.specs.Answer.{answer_at, told_by}
use Rattle.services_command.specs.Lines.{printed_lines}
use Rattle.services_command.proofs.command.found_at.Goals as goal

pub returns-in-Ok-lines_of : goal.returns-in-Ok-lines_of
returns-in-Ok-lines_of c = λ form.
    told_at (image_in c.args.files.now) (answer_at form c.args.set c.args.selection) c.in-Ok.hive.tree c.in-Ok.field-0-1
    c.in-Ok.field-0-2 (told_by form c.in-Ok-lines_of.lines) c.in-Ok.ensures.0
    (λ dirty i. record { status = statuses.Done; text = printed_lines form (c.in-Ok-lines_of.ensures i) })
