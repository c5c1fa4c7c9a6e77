use Rattle.std.proofs.Common.{◌≡◌, ◌≤◌, ℕ, length, None}
use Rattle.mem_edge.specs.Views.{held_in}
use Rattle.mem_edge.proofs.files.count_of.Given as goal

abbrev pub invariant-loop-count : goal.invariant-loop-count
invariant-loop-count l = record {
  within : l.count ≤ length l.sectors;
  none : (n : ℕ) → l.count ≤ n → held_in l.sectors n ≡ None;
}

abbrev pub decreases-loop-count : goal.decreases-loop-count
decreases-loop-count l = l.count
