use Rattle.std.proofs.Common.{◌≡◌, ◌+◌, drop}
use Rattle.std.specs.List.{position_or_len}
use Rattle.key_index.specs.Lists.{is_behind}
use Rattle.hive_cells.specs.Sources.{cells_of}
use Rattle.key_index.proofs.children.place_of.Given as goal

abbrev pub invariant-loop-at : goal.invariant-loop-at
invariant-loop-at l =
    (l.place ≡ l.at-index)
    × (l.at-index + position_or_len (is_behind (cells_of l.cells) l.name) (drop l.at-index l.offsets)
    ≡ position_or_len (is_behind (cells_of l.cells) l.name) l.offsets)
