use Rattle.std.proofs.Common.{◌≡◌, ◌++◌, take}
use Rattle.std.specs.List.{flat_map}
use Rattle.report_text.specs.line_text.Quoted.{quoted}
use Rattle.line_parts.specs.Parts.{after_space}
use Rattle.line_parts.proofs.text.say_each.Given as goal

abbrev pub invariant-loop-text : goal.invariant-loop-text
invariant-loop-text l = l.out.items ≡ l.initial.out.items ++ flat_map (λ t. after_space (quoted t)) (take l.text-index l.texts)
