use Rattle.command_parts.specs.command_parts.Placed.{image_in}
use Rattle.command_parts.proofs.SeekLemmas.{told_at}
use Rattle.device_command.specs.Answer.{answer_at}
use Rattle.device_command.proofs.command.report_at.Goals as goal

pub returns-in-Ok-told_on : goal.returns-in-Ok-told_on
returns-in-Ok-told_on c =
    told_at (image_in c.args.files.now) (answer_at c.args.form c.args.set c.args.only.now) c.in-Ok.hive.tree c.in-Ok.field-0-1
    c.in-Ok.field-0-2 c.in-Ok-told_on.told c.in-Ok.ensures.0 (λ dirty. c.in-Ok-told_on.ensures)
