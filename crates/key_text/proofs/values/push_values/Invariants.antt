use Rattle.std.proofs.Common.{◌≡◌, ◌++◌, take, map}
use Rattle.key_text.specs.Lines.{ValueLine, printed_lines}
use Rattle.key_text.proofs.values.push_values.Given as goal

abbrev pub invariant-loop-value : goal.invariant-loop-value
invariant-loop-value l = l.out.items ≡ l.fn.out.items
    ++ printed_lines l.form (map ValueLine (take l.value-index l.values))
