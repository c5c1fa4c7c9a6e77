use Rattle.std.proofs.Common.{◌≡◌, ◌++◌, take}
use Rattle.std.specs.Prelude.{codes}
use Rattle.std.specs.List.{flat_map}
use Rattle.report_text.proofs.line_text.path.push_names.Given as goal

abbrev pub invariant-loop-name : goal.invariant-loop-name
invariant-loop-name l = l.joined.items ≡ l.fn.joined.items
    ++ flat_map (λ name. codes "\\" ++ name) (take l.name-index l.names)
