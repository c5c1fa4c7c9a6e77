use Rattle.std.proofs.Common.{◌≡◌, ◌≤◌, ◌+◌, ◌++◌, length}
use Rattle.std.specs.Prelude.{sum_by}
use Rattle.std.specs.List.{flat_map}
use Rattle.device_rule.specs.Devices.{block_findings}
use Rattle.device_rule.specs.Report.{lines_in}
use Rattle.device_rule.proofs.report.put_blocks.Given as goal

abbrev pub invariant-loop-block : goal.invariant-loop-block
invariant-loop-block l = record {
  lines : l.lines ≡ l.initial.lines ++ flat_map lines_in l.yielded;
  found : l.found ≡ sum_by block_findings l.yielded;
  fits : l.found + length l.initial.lines ≤ length l.lines;
}
