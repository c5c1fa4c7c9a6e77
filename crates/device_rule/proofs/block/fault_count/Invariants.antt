use Rattle.std.proofs.Common.{◌≡◌, ◌≤◌, take}
use Rattle.std.specs.Prelude.{count_by}
use Rattle.device_rule.specs.Devices.{is_fault}
use Rattle.device_rule.proofs.block.fault_count.Given as goal

abbrev pub invariant-loop-line : goal.invariant-loop-line
invariant-loop-line l = record {
  counted : l.count ≡ count_by is_fault (take l.line-index l.lines);
  few : l.count ≤ l.line-index;
}
