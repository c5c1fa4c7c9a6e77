use Rattle.std.proofs.Common.{◌≡◌, ◌+◌, ◌*◌, ◌++◌, List, length, Ok}
use Rattle.nt_bytes.specs.Reading.{◌>>=◌}
use Rattle.hive_model.specs.Tree.{Tree}
use Rattle.hive_cells.specs.Sources.{cells_of}
use Rattle.key_command.specs.hive_levels.Reading.{cut_at, in_turn}
use Rattle.key_command.proofs.hive_levels.cut.+cut.Given as goal

abbrev pub decreases-read_cut : goal.decreases-read_cut
decreases-read_cut l = 3 * l.left

abbrev pub decreases-read_in_turn : goal.decreases-read_in_turn
decreases-read_in_turn l = 3 * l.left + 1

abbrev pub decreases-read_below : goal.decreases-read_below
decreases-read_below l = 3 * l.left + 2

abbrev pub invariant-read_in_turn-children : goal.invariant-read_in_turn-children
invariant-read_in_turn-children l =
    let read = cut_at l.left (cells_of l.cells) in
    in_turn read l.offsets ≡ (in_turn read l.rest >>= λ (more : List Tree). Ok (l.children ++ more))

abbrev pub decreases-read_in_turn-children : goal.decreases-read_in_turn-children
decreases-read_in_turn-children l = length l.rest
