use Rattle.std.proofs.Common.{◌≡◌, ◌++◌, List, [], map, length, Ok}
use Rattle.hive_cells.specs.Sources.{cells_of}
use Rattle.hive_model.specs.Tree.{Item}
use Rattle.hive_model.specs.Walk.{values_in_turn}
use Rattle.hive_model.specs.Stands.{items_at}
use Rattle.hive_read.specs.Taken.{Knows}
use Rattle.hive_read.specs.Walked.{walk}
use Rattle.hive_read.proofs.value.read_in_turn.Given as goal

abbrev pub decreases-values : goal.decreases-values
decreases-values l = length l.rest

abbrev pub invariant-values : goal.invariant-values
invariant-values l =
    let cells = cells_of l.cells in
    record {
      told : walk cells l.used (values_in_turn cells (map (λ (v : Item). v.name) l.values) l.rest)
          ≡ walk cells l.fn.used (values_in_turn cells [] l.offsets);
      stand : (more : List Item) → items_at cells l.rest ≡ Ok more → items_at cells l.offsets ≡ Ok (l.values ++ more);
      knows : Knows l.taken (map (λ (v : Item). v.name) l.values);
    }
