use Rattle.std.proofs.Common.{◌≡◌, drop}
use Rattle.std.specs.Prelude.{find}
use Rattle.hive_model.specs.Footprint.{is_node_named}
use Rattle.key_index.specs.Lists.{offsets_of}
use Rattle.hive_cells.specs.Sources.{cells_of}
use Rattle.key_index.proofs.find.scan_list.Given as goal

abbrev pub invariant-loop-place : goal.invariant-loop-place
invariant-loop-place l =
    find (is_node_named (cells_of l.cells) l.name) (drop l.place (offsets_of l.list))
    ≡ find (is_node_named (cells_of l.cells) l.name) (offsets_of l.list)
