use Rattle.std.proofs.Common.{◌≡◌, take, map, filter}
use Rattle.device_rule.specs.Devices.{block_of}
use Rattle.device_rule.specs.Report.{is_shown}
use Rattle.device_rule.proofs.report.shown_blocks.Given as goal

abbrev pub invariant-loop-device : goal.invariant-loop-device
invariant-loop-device l = l.blocks ≡ filter (is_shown l.only) (map (block_of l.only.ids l.scope) (take l.device-index l.devices))
