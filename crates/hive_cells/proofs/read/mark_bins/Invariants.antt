use Rattle.std.proofs.Common.{◌≡◌, ◌-◌, ◌/◌, ◌%◌, ◌≤◌, false, length, take, drop, replicate}
use Rattle.hive_cells.specs.Reading.{BinsRead}
use Rattle.hive_cells.proofs.read.mark_bins.Given as goal

abbrev pub invariant-reading : goal.invariant-reading
invariant-reading l = record {
  read : BinsRead l.all l.at (take (l.at / 8) l.starts.items);
  off : drop (l.at / 8) l.starts.items ≡ replicate ((length l.all - l.at) / 8) false;
  within : l.at ≤ length l.all;
  whole : l.at % 8 ≡ 0;
}

abbrev pub decreases-reading : goal.decreases-reading
decreases-reading l = length l.all - l.at
