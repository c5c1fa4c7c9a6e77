use Rattle.std.proofs.Common.{◌≡◌, ◌+◌, ◌*◌, ◌++◌, false, List, [], map, length}
use Rattle.hive_cells.specs.Sources.{cells_of}
use Rattle.hive_model.specs.Tree.{Tree, trees}
use Rattle.hive_model.specs.Walk.{keys_in_turn, key_checks}
use Rattle.hive_model.specs.Stands.{AllStand}
use Rattle.hive_read.specs.Taken.{Knows}
use Rattle.hive_read.specs.Walked.{walk}
use Rattle.hive_read.proofs.KeyWalks.{key_name}
use Rattle.hive_read.proofs.key.+walk.Given as goal

abbrev pub decreases-read_key : goal.decreases-read_key
decreases-read_key l = 4 * l.left

abbrev pub decreases-read_in_turn : goal.decreases-read_in_turn
decreases-read_in_turn l = 4 * l.left + 1

abbrev pub decreases-read_children : goal.decreases-read_children
decreases-read_children l = 4 * l.left + 2

abbrev pub decreases-read_below : goal.decreases-read_below
decreases-read_below l = 4 * l.left + 3

abbrev pub invariant-read_in_turn-children : goal.invariant-read_in_turn-children
invariant-read_in_turn-children l =
    let cells = cells_of l.cells in
    record {
      told : walk cells l.used (keys_in_turn (key_checks l.left cells false) cells (map key_name l.children) l.rest)
          ≡ walk cells l.fn.used (keys_in_turn (key_checks l.left cells false) cells [] l.offsets);
      stand : (ts : List Tree) → AllStand cells l.rest (trees ts) → AllStand cells l.offsets (trees (l.children ++ ts));
      knows : Knows l.taken (map key_name l.children);
    }

abbrev pub decreases-read_in_turn-children : goal.decreases-read_in_turn-children
decreases-read_in_turn-children l = length l.rest
