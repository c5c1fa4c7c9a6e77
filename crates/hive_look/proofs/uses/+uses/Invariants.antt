use Rattle.std.proofs.Common.{◌≡◌, ◌+◌, ◌*◌, ◌++◌, take}
use Rattle.std.specs.Prelude.{flat_map}
use Rattle.hive_cells.specs.Sources.{cells_of}
use Rattle.edited_cells.specs.Uses.{tree_uses}
use Rattle.hive_look.proofs.uses.+uses.Given as goal

abbrev pub decreases-push_key : goal.decreases-push_key
decreases-push_key l = 2 * l.left

abbrev pub decreases-push_keys : goal.decreases-push_keys
decreases-push_keys l = 2 * l.left + 1

abbrev pub invariant-push_keys-loop-at : goal.invariant-push_keys-loop-at
invariant-push_keys-loop-at l =
    l.uses.items ≡ l.fn.uses.items ++ flat_map (tree_uses l.left (cells_of l.cells)) (take l.at-index l.offsets)
