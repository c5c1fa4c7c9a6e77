use Rattle.std.proofs.Common.{◌≡◌, ◌+◌, drop}
use Rattle.std.specs.List.{position_or_len}
use Rattle.nt_bytes.specs.Text.{is_zero}
use Rattle.nt_bytes.proofs.strings.zero_place.Given as goal

abbrev pub invariant-loop-unit : goal.invariant-loop-unit
invariant-loop-unit l = (l.place ≡ l.unit-index)
    × (l.unit-index + position_or_len is_zero (drop l.unit-index l.units) ≡ position_or_len is_zero l.units)
