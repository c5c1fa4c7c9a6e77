use Rattle.std.proofs.Common.{◌≡◌, length}
use Rattle.salvage_bins.specs.Ground.{ground_of}
use Rattle.salvage_walk.specs.Found.{found_next, found_notes}
use Rattle.salvage_walk.specs.Incomplete.{notes_key}
use Rattle.salvage_walk.specs.Keys.{judged_key, key_names}
use Rattle.salvage_walk.specs.Remembered.{Remembers}
use Rattle.salvage_walk.specs.Walked.{state_of}
use Rattle.salvage_walk.proofs.found.add_found.Given as goal

abbrev pub decreases-places : goal.decreases-places
decreases-places l = length l.rest

abbrev pub invariant-places : goal.invariant-places
invariant-places l =
    let hive = ground_of l.cells in
    let judge = judged_key l.left hive in
    record {
      told : found_next judge l.above l.path l.rest l.children (state_of l.walk)
          ≡ found_next judge l.above l.path l.places l.fn.children (state_of l.fn.walk);
      noted : found_notes judge (notes_key l.left (ground_of l.cells)) l.above l.path l.rest l.children (state_of l.walk) l.notes
          ≡ found_notes judge (notes_key l.left (ground_of l.cells)) l.above l.path l.places l.fn.children (state_of l.fn.walk) l.fn.notes;
      known : l.taken ≡ key_names l.children;
      listed : Remembers hive (state_of l.walk).claims l.lists;
    }
