use Rattle.std.proofs.Common.{◌≡◌, ℕ, take, None}
use Rattle.std.specs.Prelude.{Contains}
use Rattle.hive_model.specs.Bins.{bins_size}
use Rattle.hive_cells.specs.Held.{held_at}
use Rattle.key_index.proofs.change.free_all.Given as goal

abbrev pub invariant-loop-at : goal.invariant-loop-at
invariant-loop-at l = record {
  gone : (o : ℕ) → Contains (take l.at-index l.cells) o → held_at l.heap.bins o ≡ None;
  others : (o : ℕ) → (Contains (take l.at-index l.cells) o → ⊥) → held_at l.heap.bins o ≡ held_at l.fn.heap.bins o;
  long : bins_size l.heap.bins ≡ bins_size l.fn.heap.bins;
  base : l.heap.base ≡ l.fn.heap.base;
}
