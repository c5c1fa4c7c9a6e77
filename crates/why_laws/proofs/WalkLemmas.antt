-- A walk leads from item to item.
use Rattle.std.proofs.Common.{◌≡◌, ℕ, zero, suc, List, [], ◌∷◌, ◌++◌, drop, get_or, Option, Some, None, refl, sym, ap, subst, ◌∙◌}
use Rattle.std.specs.Prelude.{nat_eq, position}
use Rattle.std.specs.Option.{option_map_or}
use Rattle.std.proofs.lemmas.Bool.{eqb-true}
use Rattle.std.proofs.lemmas.List.Quantifiers.{position-Some}
use Rattle.why_lacks.specs.why_cycle.Walk.{gone_round}

-- each leads to the next one, and the last one to this one
abbrev pub LeadUpTo : (ℕ → Option ℕ) → ℕ → List ℕ → Type 0
LeadUpTo next last [] = Unit {0}
LeadUpTo next last (p ∷ ps) = (next p ≡ Some (get_or ps 0 last)) × LeadUpTo next last ps

abbrev pub LeadRound : (ℕ → Option ℕ) → List ℕ → Type 0
LeadRound next [] = Unit {0}
LeadRound next (p ∷ ps) = LeadUpTo next p (p ∷ ps)

first_push : (p q : ℕ) (ps : List ℕ) → get_or ps 0 p ≡ get_or (ps ++ p ∷ []) 0 q
first_push p q [] = refl
first_push p q (x ∷ ps) = refl

-- one more step
one_more : (next : ℕ → Option ℕ) (p q : ℕ) (path : List ℕ) → LeadUpTo next p path → next p ≡ Some q → LeadUpTo next q (path ++ p ∷ [])
one_more next p q [] l is = (is, tt)
one_more next p q (x ∷ path) l is = (l.0 ∙ ap (λ (k : ℕ). Some k) (first_push p q path), one_more next p q path l.1 is)

-- from a place on
from_on : (next : ℕ → Option ℕ) (last i : ℕ) (path : List ℕ) → LeadUpTo next last path → LeadUpTo next last (drop i path)
from_on next last zero path l = l
from_on next last (suc i) [] l = l
from_on next last (suc i) (x ∷ path) l = from_on next last i path l.1

first_from : (i d : ℕ) (path : List ℕ) → get_or (drop i path) 0 d ≡ get_or path i d
first_from zero d path = refl
first_from (suc i) d [] = refl
first_from (suc i) d (x ∷ path) = first_from i d path

closed : (next : ℕ → Option ℕ) (p : ℕ) (ps : List ℕ) → LeadUpTo next p ps → p ≡ get_or ps 0 p → LeadRound next ps
closed next p [] l is = l
closed next p (x ∷ ps) l is = subst (λ (k : ℕ). LeadUpTo next k (x ∷ ps)) is l

-- where a walk comes back, it has gone round
pub leads_round : (next : ℕ → Option ℕ) (n : ℕ) (path : List ℕ) (p : ℕ) → LeadUpTo next p path → LeadRound next (gone_round next n path p)
unfolding gone_round
leads_round next zero path p l = tt
leads_round next (suc n) path p l =
    by (position (nat_eq p) path) (next p) refl refl (λ q is. leads_round next n (path ++ p ∷ []) q (one_more next p q path l is))
  where
    by : (o q : Option ℕ) → position (nat_eq p) path ≡ o → next p ≡ q
        → ((q : ℕ) → next p ≡ Some q → LeadRound next (gone_round next n (path ++ p ∷ []) q))
        → LeadRound next (option_map_or (λ at. drop at path) o (option_map_or (gone_round next n (path ++ p ∷ [])) q []))
    by (Some i) q at is deep =
        let here = (position-Some (nat_eq p) path i p at).1 in
        closed next p (drop i path) (from_on next p i path l) (eqb-true p (get_or path i p) here ∙ sym (first_from i p path))
    by None (Some q) at is deep = deep q is
    by None None at is deep = tt
