use Rattle.std.proofs.Common.{◌≡◌, ◌-◌, length}
use Rattle.salvage_walk.specs.Remembered.{Follows}
use Rattle.salvage_walk.proofs.lists.catch_up.Given as goal

abbrev pub decreases-uses : goal.decreases-uses
decreases-uses l = length l.used - l.lists.seen

abbrev pub invariant-uses : goal.invariant-uses
invariant-uses l = record {
  follows : Follows l.used l.lists;
  same : l.lists.lists ≡ l.fn.lists.lists;
}
