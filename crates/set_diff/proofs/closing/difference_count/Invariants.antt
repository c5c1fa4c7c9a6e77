use Rattle.std.proofs.Common.{◌≡◌, ◌≤◌, take}
use Rattle.std.specs.Prelude.{count_by}
use Rattle.set_diff.specs.Sets.{is_difference}
use Rattle.set_diff.proofs.closing.difference_count.Given as goal

abbrev pub invariant-loop-line : goal.invariant-loop-line
invariant-loop-line l = record {
  count : l.count ≡ count_by is_difference (take l.line-index l.lines);
  few : l.count ≤ l.line-index;
}
