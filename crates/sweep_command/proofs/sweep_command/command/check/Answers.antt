use Rattle.command_parts.specs.command_parts.Placed.{image_in}
use Rattle.sweep_command.proofs.AnswerLemmas.{checked}
use Rattle.sweep_command.proofs.sweep_command.command.check.Goals as goal

pub returns : goal.returns
returns c = checked (image_in c.args.files.now) c.in_ok-_judged._judged c.in_ok-_judged.ensures
