use Rattle.std.proofs.Common.{◌≡◌, ◌++◌, ℕ, List, length, Ok}
use Rattle.hive_model.specs.Walk.{segments_checks}
use Rattle.hive_model.specs.Stands.{joined_segments}
use Rattle.hive_cells.specs.Sources.{cells_of}
use Rattle.hive_read.specs.Walked.{walk}
use Rattle.hive_read.proofs.data.read_segments.Given as goal

abbrev pub decreases-segments : goal.decreases-segments
decreases-segments l = length l.rest

abbrev pub invariant-segments : goal.invariant-segments
invariant-segments l =
    let cells = cells_of l.cells in
    record {
      told : walk cells l.used (segments_checks cells l.left l.rest)
          ≡ walk cells l.fn.used (segments_checks cells l.size l.offsets);
      stand : (more : List ℕ) → joined_segments cells l.left l.rest ≡ Ok more
          → joined_segments cells l.size l.offsets ≡ Ok (l.bytes ++ more);
    }
