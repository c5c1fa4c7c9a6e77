use Rattle.std.proofs.Common.{◌≡◌, ℕ, ◌<◌, ◌≤◌, ◌*◌, length, slice_index}
use Rattle.dependencies.specs.Firsts.{AreNodesBut}
use Rattle.dependencies.proofs.place_set.settle.Given as goal

abbrev pub invariant-loop-at : goal.invariant-loop-at
invariant-loop-at l = record {
  len : length l.firsts ≡ 2 * l.count;
  at : l.at < l.count;
  nodes : AreNodesBut l.at l.firsts l.count;
  leaves : (k : ℕ) → l.count ≤ k → slice_index l.firsts k ≡ slice_index l.initial.firsts k;
}

abbrev pub decreases-loop-at : goal.decreases-loop-at
decreases-loop-at l = l.at
