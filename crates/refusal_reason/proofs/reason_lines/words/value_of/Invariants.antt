use Rattle.std.proofs.Common.{◌≡◌, ◌<◌, ◌^◌, drop}
use Rattle.std.specs.Str.Parse.{digits_value, digits_value_after}
use Rattle.refusal_reason.proofs.reason_lines.words.value_of.Given as goal

abbrev pub invariant-loop-c : goal.invariant-loop-c
invariant-loop-c l = record {
  so_far : digits_value_after 10 l.value (drop l.c-index l.digits) ≡ digits_value 10 l.digits;
  small : l.value < 10 ^ l.c-index;
}
