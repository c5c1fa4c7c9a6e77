use Rattle.std.proofs.Common.{◌≡◌, take, filter}
use Rattle.nt_bytes.specs.Text.{is_filled}
use Rattle.device_rule.proofs.values.filled_parts.Given as goal

abbrev pub invariant-loop-part : goal.invariant-loop-part
invariant-loop-part l = l.names ≡ filter is_filled (take l.part-index l.parts)
