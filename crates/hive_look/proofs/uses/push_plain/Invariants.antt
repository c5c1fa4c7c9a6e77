use Rattle.std.proofs.Common.{◌≡◌, ◌++◌, take}
use Rattle.edited_cells.specs.Uses.{plain}
use Rattle.hive_look.proofs.uses.push_plain.Given as goal

abbrev pub invariant-loop-at : goal.invariant-loop-at
invariant-loop-at l = l.uses.items ≡ l.fn.uses.items ++ plain (take l.at-index l.cells)
