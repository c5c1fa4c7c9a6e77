use Rattle.std.proofs.Common.{◌≡◌, ◌++◌, take}
use Rattle.std.specs.List.{flat_map}
use Rattle.reg_text.specs.Writing.{unit_bytes}
use Rattle.reg_text.proofs.writing.push_few.Given as goal

abbrev pub invariant-loop-unit : goal.invariant-loop-unit
invariant-loop-unit l = l.out.items ≡ l.fn.out.items ++ flat_map unit_bytes (take l.unit-index l.units)
