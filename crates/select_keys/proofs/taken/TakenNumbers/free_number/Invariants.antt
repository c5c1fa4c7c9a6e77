use Rattle.std.proofs.Common.{◌≡◌, ℕ, ◌<◌, ◌≤◌, true}
use Rattle.start_model.specs.Sets.{has_number}
use Rattle.select_keys.proofs.taken.TakenNumbers.free_number.Given as goal

abbrev pub invariant-loop-free : goal.invariant-loop-free
invariant-loop-free l = (k : ℕ) → 1 ≤ k → k < l.free → has_number l.self k ≡ true
