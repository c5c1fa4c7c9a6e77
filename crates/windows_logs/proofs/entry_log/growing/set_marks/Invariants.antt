use Rattle.std.proofs.Common.{◌≡◌, ℕ, ◌<◌, ◌≤◌, length, true, false}
use Rattle.std.specs.Prelude.{slice_index_or}
use Rattle.windows_logs.proofs.entry_log.growing.set_marks.Given as goal

abbrev pub invariant-loop-at : goal.invariant-loop-at
invariant-loop-at l = record {
  long : length l.marks ≡ length l.initial.marks;
  on : (k : ℕ) → l.first ≤ k → k < l.at → slice_index_or l.marks k false ≡ true;
  off : (k : ℕ) → (l.first ≤ k → k < l.at → ⊥)
      → slice_index_or l.marks k false ≡ slice_index_or l.initial.marks k false;
}
