use Rattle.std.proofs.Common.{◌≡◌, ◌++◌, take, map, filter}
use Rattle.answer_lines.specs.declared.diff_lines.lines.DiffLine.TheVariants.{Lone}
use Rattle.set_diff.specs.Listed.{lacks}
use Rattle.set_diff.proofs.names.put_lone.Given as goal

abbrev pub invariant-loop-name : goal.invariant-loop-name
invariant-loop-name l = l.lines ≡ l.initial.lines ++ map (λ name. Lone l.part l.side name) (filter (lacks l.others) (take l.name-index l.names))
