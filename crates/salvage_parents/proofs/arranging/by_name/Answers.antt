use Rattle.std.proofs.Common.{◌≡◌, [], arith, sym, ◌∙◌}
use Rattle.std.proofs.lemmas.List.{nil_from_length}
use Rattle.std.specs.Map.{values_of}
use Rattle.std.specs.Vec.Iter.{into_iter_items}
use Rattle.salvage_parents.proofs.NamedLemmas.{arranged-end}
use Rattle.salvage_parents.proofs.arranging.by_name.Goals as goal

pub returns : goal.returns
returns c =
    let none : into_iter_items c.keys.rest ≡ [] = nil_from_length _ (omega (arith, c.keys.rest.rest.ok, c.in_default.ensures.cases)) in
    sym (arranged-end (values_of c.keys.named.entries) (into_iter_items c.keys.rest) none) ∙ c.keys.invariant.so_far
