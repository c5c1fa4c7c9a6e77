use Rattle.std.proofs.Common.{◌≡◌, ◌≤◌, take}
use Rattle.std.specs.Prelude.{count_by}
use Rattle.tree_diff.proofs.whole.stamps.Given as goal

abbrev pub invariant-loop-mark : goal.invariant-loop-mark
invariant-loop-mark l = record {
  count : l.count ≡ count_by (λ m. m.stamp) (take l.mark-index l.marks);
  few : l.count ≤ l.mark-index;
}
