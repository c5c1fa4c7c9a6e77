use Rattle.std.proofs.Common.{◌≡◌, length}
use Rattle.salvage_bins.specs.Ground.{ground_of}
use Rattle.salvage_walk.specs.Steps.{leaves_next, no_entries}
use Rattle.salvage_walk.specs.FrontSeen.{entries_seen}
use Rattle.salvage_walk.specs.Walked.{state_of}
use Rattle.salvage_walk.proofs.entries.leaves.Given as goal

abbrev pub decreases-lists : goal.decreases-lists
decreases-lists l = length l.rest

abbrev pub invariant-lists : goal.invariant-lists
invariant-lists l =
    leaves_next (ground_of l.cells) l.path l.rest (entries_seen l.entries) (state_of l.walk)
    ≡ leaves_next (ground_of l.cells) l.path l.lists (no_entries l.sound) (state_of l.fn.walk)
