use Rattle.std.proofs.Common.{◌≡◌, ◌++◌, ℕ, List, length, Ok}
use Rattle.nt_bytes.specs.Reading.{◌>>=◌}
use Rattle.hive_model.specs.Walk.{joined_at}
use Rattle.hive_cells.specs.Sources.{cells_of}
use Rattle.key_command.proofs.hive_levels.lists.joined_at.Given as goal

abbrev pub decreases-lists : goal.decreases-lists
decreases-lists l = length l.rest

abbrev pub invariant-lists : goal.invariant-lists
invariant-lists l =
    let cells = cells_of l.cells in
    joined_at cells l.lists ≡ (joined_at cells l.rest >>= λ (more : List ℕ). Ok (l.all.items ++ more))
