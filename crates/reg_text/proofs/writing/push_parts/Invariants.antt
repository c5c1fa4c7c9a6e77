use Rattle.std.proofs.Common.{◌≡◌, ◌++◌, take}
use Rattle.std.specs.Prelude.{codes}
use Rattle.std.specs.List.{flat_map}
use Rattle.reg_text.proofs.writing.push_parts.Given as goal

abbrev pub invariant-loop-name : goal.invariant-loop-name
invariant-loop-name l = l.place.items ≡ l.fn.place.items
    ++ flat_map (λ name. codes "\\" ++ name) (take l.name-index l.names)
