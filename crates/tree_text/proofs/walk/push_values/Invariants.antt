use Rattle.std.proofs.Common.{◌≡◌, ◌++◌, take}
use Rattle.tree_text.specs.TreeText.{values_text}
use Rattle.tree_text.proofs.walk.push_values.Given as goal

abbrev pub invariant-loop-value : goal.invariant-loop-value
invariant-loop-value l = l.out.items ≡ l.fn.out.items ++ values_text l.margin (take l.value-index l.values)
