use Rattle.std.proofs.Common.{◌≡◌, ◌+◌, drop}
use Rattle.std.specs.List.{prefix_len}
use Rattle.reg_text.specs.Digits.{is_hex}
use Rattle.reg_text.proofs.digits.hex_count.Given as goal

abbrev pub invariant-loop-unit : goal.invariant-loop-unit
invariant-loop-unit l = (l.count ≡ l.unit-index)
    × (l.unit-index + prefix_len is_hex (drop l.unit-index l.text) ≡ prefix_len is_hex l.text)
