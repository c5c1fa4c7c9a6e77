use Rattle.std.proofs.Common.{◌≡◌, ◌+◌, ◌*◌, ◌≤◌, ◌++◌, length, take}
use Rattle.std.specs.List.{flat_map}
use Rattle.std.specs.Vec.{vec_len, vec_capacity}
use Rattle.reg_text.specs.Writing.{quoted_unit}
use Rattle.reg_text.proofs.values.push_units.Given as goal

abbrev pub invariant-loop-unit : goal.invariant-loop-unit
invariant-loop-unit l = record {
  text : l.out.items ≡ l.fn.out.items ++ flat_map quoted_unit (take l.unit-index l.text);
  room : vec_len l.fn.out + 2 * length l.text ≤ vec_capacity l.out;
  len : vec_len l.out ≤ vec_len l.fn.out + 2 * l.unit-index;
}
