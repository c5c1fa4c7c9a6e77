use Rattle.std.proofs.Common.{◌≡◌, ◌++◌}
use Rattle.std.specs.List.{flat_map}
use Rattle.device_rule.specs.Devices.{below_enumerator}
use Rattle.device_rule.proofs.device.put_enumerators.Given as goal

abbrev pub invariant-loop-key : goal.invariant-loop-key
invariant-loop-key l = l.out ≡ l.initial.out ++ flat_map below_enumerator l.yielded
