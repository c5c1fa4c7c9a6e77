use Rattle.command_parts.specs.command_parts.Placed.{image_in}
use Rattle.text_commands.proofs.ExportLemmas.{exported_as}
use Rattle.text_commands.proofs.exporting.export_tree.Goals as goal

pub returns-in-Ok : goal.returns-in-Ok
returns-in-Ok c =
    exported_as c.args.form (image_in c.args.files.now)
    c.args.path.now c.in-Ok.root c.in-Ok.field-0-1 c.in-Ok.field-0-2 c.tree_export.result c.in-Ok.ensures.checks
    c.tree_export.ensures
