use Rattle.std.proofs.Common.{◌≡◌, ◌<◌, ◌≤◌, ℕ, length, get_or}
use Rattle.hive_edit.proofs.give.own_number.Given as goal

abbrev pub invariant-loop-i : goal.invariant-loop-i
invariant-loop-i l = record {
  sized : length l.own ≡ 4;
  below : (k : ℕ) → k < l.i → get_or l.own k 0 ≡ get_or l.bytes k 0;
  above : (k : ℕ) → l.i ≤ k → get_or l.own k 0 ≡ 0;
}
