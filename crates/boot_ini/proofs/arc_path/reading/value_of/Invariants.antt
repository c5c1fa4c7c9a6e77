use Rattle.std.proofs.Common.{◌≡◌, ◌<◌, ◌^◌, drop}
use Rattle.std.specs.Str.Parse.{digits_value, digits_value_after}
use Rattle.boot_ini.proofs.arc_path.reading.value_of.Given as goal

abbrev pub invariant-loop-c : goal.invariant-loop-c
invariant-loop-c l = record {
  so_far : digits_value_after l.radix l.value (drop l.c-index l.digits) ≡ digits_value l.radix l.digits;
  small : l.value < l.radix ^ l.c-index;
}
