use Rattle.std.proofs.Common.{◌-◌, ◌≤◌, length, take}
use Rattle.salvage_walk.specs.Remembered.{AreClearBelow}
use Rattle.salvage_walk.proofs.lists.clear_of_rest.Given as goal

abbrev pub decreases-uses : goal.decreases-uses
decreases-uses l = length l.used - l.number

abbrev pub invariant-uses : goal.invariant-uses
invariant-uses l = record {
  few : l.clear ≤ l.bound;
  clear : AreClearBelow (take l.seen l.used) l.list l.bound → AreClearBelow (take l.number l.used) l.list l.clear;
}
