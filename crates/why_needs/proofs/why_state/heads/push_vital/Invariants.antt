use Rattle.std.proofs.Common.{◌≡◌, ◌++◌, map, take}
use Rattle.answer_lines.specs.declared.why_lines.lines.WhyLine.TheVariants.{Vital}
use Rattle.why_needs.proofs.why_state.heads.push_vital.Given as goal

abbrev pub invariant-loop-name : goal.invariant-loop-name
invariant-loop-name l = l.lines ≡ l.initial.lines ++ map Vital (take l.name-index l.names)
