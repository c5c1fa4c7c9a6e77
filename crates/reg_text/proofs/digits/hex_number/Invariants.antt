use Rattle.std.proofs.Common.{◌≡◌, ◌<◌, ◌^◌, drop}
use Rattle.std.specs.Str.Parse.{digits_value, digits_value_after}
use Rattle.reg_text.proofs.digits.hex_number.Given as goal

abbrev pub invariant-loop-unit : goal.invariant-loop-unit
invariant-loop-unit l = record {
  so_far : digits_value_after 16 l.value (drop l.unit-index l.text) ≡ digits_value 16 l.text;
  small : l.value < 16 ^ l.unit-index;
}
