use Rattle.std.proofs.Common.{◌≡◌, ◌++◌, ℕ, List, length, Ok}
use Rattle.hive_cells.specs.Sources.{cells_of}
use Rattle.hive_model.specs.Walk.{joined_at, leaves_checks}
use Rattle.hive_read.specs.Walked.{walk}
use Rattle.hive_read.proofs.list.read_leaves.Given as goal

abbrev pub decreases-lists : goal.decreases-lists
decreases-lists l = length l.rest

abbrev pub invariant-lists : goal.invariant-lists
invariant-lists l =
    let cells = cells_of l.cells in
    record {
      told : walk cells l.used (leaves_checks cells l.rest) ≡ walk cells l.fn.used (leaves_checks cells l.lists);
      stand : (more : List ℕ) → joined_at cells l.rest ≡ Ok more → joined_at cells l.lists ≡ Ok (l.all.items ++ more);
    }
