use Rattle.std.proofs.Common.{◌≡◌, ◌++◌, map}
use Rattle.device_rule.specs.Devices.{device_at}
use Rattle.device_rule.proofs.device.put_instances.Given as goal

abbrev pub invariant-loop-key : goal.invariant-loop-key
invariant-loop-key l = l.out ≡ l.initial.out ++ map (device_at l.enumerator l.device) l.yielded
