use Rattle.std.proofs.Common.{◌≡◌, take}
use Rattle.device_rule.specs.Values.{key_names}
use Rattle.device_rule.proofs.named_keys.names_in.Given as goal

abbrev pub invariant-loop-key : goal.invariant-loop-key
invariant-loop-key l = l.names ≡ key_names (take l.key-index l.keys)
