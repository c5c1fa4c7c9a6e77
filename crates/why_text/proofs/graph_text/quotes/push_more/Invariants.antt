use Rattle.std.proofs.Common.{◌≡◌, ◌++◌, take}
use Rattle.std.specs.Prelude.{codes}
use Rattle.std.specs.List.{flat_map}
use Rattle.answer_lines.specs.declared.why_lines.lines.WhyLine.{WhyLine}
use Rattle.why_text.specs.graph_text.Dot.{head_part}
use Rattle.why_text.proofs.graph_text.quotes.push_more.Given as goal

abbrev pub invariant-loop-line : goal.invariant-loop-line
invariant-loop-line l = l.out.items ≡ l.initial.out.items ++ flat_map (λ (line : WhyLine). codes ", " ++ head_part line) (take l.line-index l.lines)
