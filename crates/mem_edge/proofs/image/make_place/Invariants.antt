use Rattle.std.proofs.Common.{◌≡◌, ◌≤◌, ◌+◌, ◌-◌, ℕ, length}
use Rattle.mem_edge.specs.Views.{held_in}
use Rattle.mem_edge.proofs.image.make_place.Given as goal

abbrev pub invariant-loop-file : goal.invariant-loop-file
invariant-loop-file l = record {
  same : (n : ℕ) → held_in l.file.items n ≡ held_in l.fn.file.items n;
  longer : length l.fn.file.items ≤ length l.file.items;
}

abbrev pub decreases-loop-file : goal.decreases-loop-file
decreases-loop-file l = (l.sector + 1) - length l.file.items
