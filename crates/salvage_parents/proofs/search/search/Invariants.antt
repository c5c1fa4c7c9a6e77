use Rattle.std.proofs.Common.{◌≡◌, ◌≤◌, ◌+◌}
use Rattle.std.specs.Prelude.{◌/◌, length}
use Rattle.salvage_bins.specs.Ground.{ground_of}
use Rattle.salvage_walk.specs.Remembered.{Remembers}
use Rattle.salvage_walk.specs.Walked.{state_of}
use Rattle.salvage_parents.specs.Search.{searched}
use Rattle.salvage_parents.specs.Seen.{search_seen}
use Rattle.salvage_parents.proofs.search.search.Given as goal

abbrev pub decreases-keys : goal.decreases-keys
decreases-keys l = l.left

abbrev pub invariant-keys : goal.invariant-keys
invariant-keys l = record {
  so_far : searched (ground_of l.cells) l.left l.place (search_seen l.search)
      ≡ searched (ground_of l.cells) (ground_of l.cells).slots 0 (search_seen l.fn.search);
  listed : Remembers (ground_of l.cells) (state_of l.search.walk).claims l.lists;
  few : l.place + l.left ≤ length l.cells.bytes.now / 8;
}
