use Rattle.std.proofs.Common.{◌≡◌, ◌++◌, ◌+◌, length}
use Rattle.sweep_text.specs.sweep_text.Calls.{writes_text}
use Rattle.sweep_text.proofs.sweep_text.stages.push_writes.Given as goal

abbrev pub invariant-writes : goal.invariant-writes
invariant-writes l = record {
  so_far : l.out.items ++ writes_text l.form l.n l.file l.after l.waiting
      ≡ l.fn.out.items ++ writes_text l.form l.first l.file l.after l.sectors;
  numbers : l.n + length l.waiting ≡ l.first + length l.sectors;
}

abbrev pub decreases-writes : goal.decreases-writes
decreases-writes l = length l.waiting
