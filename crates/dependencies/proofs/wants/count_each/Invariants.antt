use Rattle.std.proofs.Common.{◌≡◌, ℕ, ◌==◌, length, slice_index, take}
use Rattle.std.specs.Prelude.{count_by}
use Rattle.dependencies.proofs.wants.count_each.Given as goal

abbrev pub invariant-loop-owner : goal.invariant-loop-owner
invariant-loop-owner l = record {
  len : length l.counts.items ≡ length l.initial.counts.items;
  counted : (p : ℕ) → slice_index l.counts.items p ≡ count_by (λ o. o == p) (take l.owner-index l.owners);
}
