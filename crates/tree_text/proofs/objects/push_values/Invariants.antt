use Rattle.std.proofs.Common.{◌≡◌, ◌++◌, take}
use Rattle.tree_text.specs.TreeObjects.{lines_json, value_lines}
use Rattle.tree_text.proofs.objects.push_values.Given as goal

abbrev pub invariant-loop-value : goal.invariant-loop-value
invariant-loop-value l = l.out.items ≡ l.fn.out.items
    ++ lines_json (value_lines l.level (take l.value-index l.values))
