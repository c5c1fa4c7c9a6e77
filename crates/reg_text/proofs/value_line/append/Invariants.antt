use Rattle.std.proofs.Common.{◌≡◌, ◌++◌, take}
use Rattle.reg_text.proofs.value_line.append.Given as goal

abbrev pub invariant-loop-unit : goal.invariant-loop-unit
invariant-loop-unit l = l.text ≡ l.fn.text ++ take l.unit-index l.more
