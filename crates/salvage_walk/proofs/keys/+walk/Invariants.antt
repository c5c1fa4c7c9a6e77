use Rattle.std.proofs.Common.{◌≡◌, ◌+◌, ◌*◌, [], length}
use Rattle.salvage_bins.specs.Ground.{ground_of}
use Rattle.salvage_walk.specs.Keys.{judged_key, key_names, keys_next}
use Rattle.salvage_walk.specs.Incomplete.{incomplete_at, notes_key, notes_next}
use Rattle.salvage_walk.specs.Remembered.{Remembers}
use Rattle.salvage_walk.specs.Walked.{state_of}
use Rattle.salvage_walk.proofs.keys.+walk.Given as goal

abbrev pub decreases-key : goal.decreases-key
decreases-key l = 3 * l.left

abbrev pub decreases-keys : goal.decreases-keys
decreases-keys l = 3 * l.left + 1

abbrev pub decreases-key_of : goal.decreases-key_of
decreases-key_of l = 3 * l.left + 2

abbrev pub invariant-keys-children : goal.invariant-keys-children
invariant-keys-children l =
    let judge = judged_key l.left (ground_of l.cells) in
    record {
      told : keys_next judge l.above l.path l.number l.rest l.children (state_of l.walk)
          ≡ keys_next judge l.above l.path 1 l.offsets [] (state_of l.fn.walk);
      known : l.taken ≡ key_names l.children;
      noted : notes_next judge (notes_key l.left (ground_of l.cells)) (incomplete_at l.own l.path) l.above l.path l.number l.rest l.children
          (state_of l.walk) l.noted l.notes
          ≡ notes_next judge (notes_key l.left (ground_of l.cells)) (incomplete_at l.own l.path) l.above l.path 1 l.offsets []
          (state_of l.fn.walk) l.told l.fn.notes;
      listed : Remembers (ground_of l.cells) (state_of l.walk).claims l.lists;
      few : l.number + length l.rest ≡ 1 + length l.offsets;
    }

abbrev pub decreases-keys-children : goal.decreases-keys-children
decreases-keys-children l = length l.rest
