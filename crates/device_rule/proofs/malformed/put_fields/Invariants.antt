use Rattle.std.proofs.Common.{◌≡◌, ◌++◌, take, map, filter}
use Rattle.device_rule.specs.declared.lines.DeviceLine.TheVariants.{Malformed}
use Rattle.device_rule.specs.Devices.{has_malformed}
use Rattle.device_rule.proofs.malformed.put_fields.Given as goal

abbrev pub invariant-loop-field : goal.invariant-loop-field
invariant-loop-field l = l.lines ≡ l.initial.lines ++ map Malformed (filter (has_malformed l.key) (take l.field-index l.fields))
