use Rattle.std.proofs.Common.{◌-◌, ◌≤◌, Bool, List, length}
use Rattle.hive_cells.specs.Reading.{BinsRead}
use Rattle.hive_cells.proofs.read.check_bins.Given as goal

abbrev pub invariant-reading : goal.invariant-reading
invariant-reading l = record {
  read : (starts : List Bool) × BinsRead l.all l.at starts;
  within : l.at ≤ length l.all;
}

abbrev pub decreases-reading : goal.decreases-reading
decreases-reading l = length l.all - l.at
