use Rattle.std.proofs.Common.{◌≡◌, ℕ, ◌<◌, [], length, get_or}
use Rattle.key_index.specs.Lists.{hints_in}
use Rattle.hive_cells.specs.Sources.{cells_of}
use Rattle.key_index.proofs.hints.hints.Given as goal

abbrev pub invariant-loop-i : goal.invariant-loop-i
invariant-loop-i l = record {
  long : length l.made.items ≡ length l.offsets;
  each : (k : ℕ) → k < l.i → get_or l.made.items k [] ≡ get_or (hints_in (cells_of l.cells) l.offsets) k [];
}
