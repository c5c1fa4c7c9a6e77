use Rattle.std.proofs.Common.{◌≡◌, length}
use Rattle.hive_cells.specs.Sources.{cells_of}
use Rattle.key_command.specs.hive_levels.Reading.{first_named}
use Rattle.key_command.proofs.hive_levels.names.first_named.Given as goal

abbrev pub invariant-offsets : goal.invariant-offsets
invariant-offsets l =
    let cells = cells_of l.cells in first_named cells l.name l.rest ≡ first_named cells l.name l.offsets

abbrev pub decreases-offsets : goal.decreases-offsets
decreases-offsets l = length l.rest
