use Rattle.std.proofs.Common.{◌≡◌, ◌++◌, ℕ, List, length, Ok}
use Rattle.nt_bytes.specs.Reading.{◌>>=◌}
use Rattle.hive_model.specs.Stands.{joined_segments}
use Rattle.hive_cells.specs.Sources.{cells_of}
use Rattle.key_command.proofs.hive_levels.data.segments.Given as goal

abbrev pub decreases-segments : goal.decreases-segments
decreases-segments l = length l.rest

abbrev pub invariant-segments : goal.invariant-segments
invariant-segments l =
    let cells = cells_of l.cells in
    joined_segments cells l.size l.offsets
    ≡ (joined_segments cells l.left l.rest >>= λ (more : List ℕ). Ok (l.bytes ++ more))
