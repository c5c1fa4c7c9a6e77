use Rattle.std.proofs.Common.{◌≡◌, ℕ, List, ◌∷◌, take}
use Rattle.hive_edit.specs.Gone.{AreGone, CanGo, HasOffsets}
use Rattle.hive_edit.proofs.unset.free_listed.Given as goal

abbrev pub invariant-loop-place : goal.invariant-loop-place
invariant-loop-place l =
    record {
      gone : (offsets : List ℕ) → HasOffsets l.fn.heap.bins l.list l.count offsets → CanGo l.fn.heap.bins (l.list ∷ offsets)
          → AreGone (take l.place offsets) l.fn.heap.bins l.heap.bins;
      base : l.heap.base ≡ l.fn.heap.base;
    }
