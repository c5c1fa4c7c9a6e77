use Rattle.std.proofs.Common.{sym, ap, ◌∙◌, subst, List, ℕ}
use Rattle.std.specs.List.Sorted.{IsStrictlyIncreasing}
use Rattle.std.proofs.lemmas.List.Filters.{dedup_is}
use Rattle.std.proofs.lemmas.Map.Keys.{IsStrictlyIncreasing-dedup}
use Rattle.failure_effects.specs.Givers.{has_place}
use Rattle.failure_effects.proofs.NearLemmas.{same_places}
use Rattle.failure_effects.proofs.givers.rising.Goals as goal

pub returns-clause-rises : goal.returns-clause-rises
returns-clause-rises c =
    subst (λ (xs : List ℕ). IsStrictlyIncreasing xs) (sym (c.from_vec.ensures ∙ dedup_is _ _ _ c.dedup.ensures.filtered))
    (IsStrictlyIncreasing-dedup c.sort.new.self.items c.in_ok-sort.ensures.sorted)

pub returns-clause-same : goal.returns-clause-same
returns-clause-same c = λ p.
    ap (has_place p) (c.from_vec.ensures ∙ dedup_is _ _ _ c.dedup.ensures.filtered)
    ∙ same_places c.args.found.items c.sort.new.self.items p c.in_ok-sort.ensures.permutation
