use Rattle.std.proofs.Common.{◌≡◌, ◌<◌, ◌*◌, ℕ, List, Some}
use Rattle.nt_bytes.specs.Fields.{u32_in}
use Rattle.hive_cells.specs.Held.{held_at}
use Rattle.hive_edit.proofs.unset.place_of.Given as goal

abbrev pub invariant-loop-place : goal.invariant-loop-place
invariant-loop-place l = (k : ℕ) → k < l.place → (p : List ℕ) → held_at l.heap.bins l.list ≡ Some p
    → u32_in p (4 * k) ≡ l.offset → ⊥
