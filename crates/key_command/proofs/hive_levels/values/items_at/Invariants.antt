use Rattle.std.proofs.Common.{◌≡◌, ◌++◌, List, length, Ok}
use Rattle.nt_bytes.specs.Reading.{◌>>=◌}
use Rattle.hive_model.specs.Tree.{Item}
use Rattle.hive_model.specs.Stands.{items_at}
use Rattle.hive_cells.specs.Sources.{cells_of}
use Rattle.key_command.proofs.hive_levels.values.items_at.Given as goal

abbrev pub decreases-values : goal.decreases-values
decreases-values l = length l.rest

abbrev pub invariant-values : goal.invariant-values
invariant-values l =
    let cells = cells_of l.cells in
    items_at cells l.offsets ≡ (items_at cells l.rest >>= λ (more : List Item). Ok (l.values ++ more))
