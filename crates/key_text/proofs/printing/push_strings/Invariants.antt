use Rattle.std.proofs.Common.{◌≡◌, ◌++◌, take}
use Rattle.std.specs.Prelude.{codes}
use Rattle.std.specs.List.{flat_map}
use Rattle.report_text.specs.line_text.Quoted.{quoted}
use Rattle.key_text.proofs.printing.push_strings.Given as goal

abbrev pub invariant-loop-string : goal.invariant-loop-string
invariant-loop-string l = l.out.items ≡ l.fn.out.items
    ++ flat_map (λ item. codes " " ++ quoted item) (take l.string-index l.strings)
