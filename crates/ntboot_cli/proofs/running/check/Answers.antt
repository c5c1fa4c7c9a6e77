use Rattle.command_parts.specs.command_parts.Placed.{image_in}
use Rattle.ntboot_cli.proofs.RunLemmas.{checked}
use Rattle.ntboot_cli.proofs.running.check.Goals as goal

pub returns : goal.returns
returns c = checked (image_in c.args.files.now) c.in_ok-cells.cells c.in_ok-cells._number c.in_ok-cells._version
    c.in_ok-cells.ensures
