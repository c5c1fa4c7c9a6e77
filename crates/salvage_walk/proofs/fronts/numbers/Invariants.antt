use Rattle.std.proofs.Common.{◌≡◌, ◌≤◌, ◌*◌, ◌++◌, length}
use Rattle.hive_model.specs.Lists.{numbers_in}
use Rattle.salvage_walk.proofs.fronts.numbers.Given as goal

abbrev pub invariant-loop-left : goal.invariant-loop-left
invariant-loop-left l = record {
  so_far : l.all.items ++ numbers_in l.step l.left l.rest ≡ numbers_in l.step l.count l.bytes;
  inside : l.step * l.left ≤ length l.rest;
}

abbrev pub decreases-loop-left : goal.decreases-loop-left
decreases-loop-left l = l.left
