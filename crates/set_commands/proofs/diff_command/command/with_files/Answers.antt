use Rattle.command_words.specs.Views.{diff_seen}
use Rattle.command_parts.specs.command_parts.Placed.{image_in}
use Rattle.set_commands.specs.diff_command.Answer.{with_fault, IsOther}
use Rattle.set_commands.proofs.SeekLemmas.{loaded_finds}
use Rattle.set_commands.proofs.diff_command.command.with_files.Goals as goal

pub returns-in-Ok : goal.returns-in-Ok
returns-in-Ok c =
    loaded_finds (image_in c.args.files.now) with_fault (IsOther c.args.form (diff_seen c.args.words) c.args.first.now.tree) c.in-Ok.second.tree
    c.in-Ok.field-0-1 c.in-Ok.field-0-2 c.between.result c.in-Ok.ensures.0 c.between.ensures
