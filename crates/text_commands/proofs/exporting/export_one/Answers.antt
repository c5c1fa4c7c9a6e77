use Rattle.command_parts.specs.command_parts.Placed.{image_in}
use Rattle.text_commands.proofs.ExportLemmas.{exported_by_cells}
use Rattle.text_commands.proofs.exporting.export_one.Goals as goal

pub returns-in-Ok : goal.returns-in-Ok
returns-in-Ok c =
    exported_by_cells c.args.form (image_in c.args.files.now)
    c.args.path.now c.in-Ok.cells c.in-Ok.field-0-1 c.in-Ok.field-0-2 c.cells_export.result c.in-Ok.ensures
    c.cells_export.ensures
