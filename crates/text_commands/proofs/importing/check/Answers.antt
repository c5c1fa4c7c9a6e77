use Rattle.command_parts.specs.command_parts.Placed.{image_in}
use Rattle.text_commands.proofs.ImportLemmas.{checked}
use Rattle.text_commands.proofs.importing.check.Goals as goal

pub returns : goal.returns
returns c = checked (image_in c.args.files.now) c.in_ok-cells.cells c.in_ok-cells._number c.in_ok-cells._version
    c.in_ok-cells.ensures
