-- That each cell is used once, check by check: none clashes with those before it.
use Rattle.std.proofs.Common.{◌≡◌, ◌<◌, ℕ, zero, suc, Bool, false, List, [], ◌∷◌, ◌++◌, length, get_or, refl, sym, ap, subst, ◌∙◌, arith, append_assoc, length-append}
use Rattle.std.specs.List.{AllPairs, list_any}
use Rattle.std.proofs.lemmas.List.{append-nil, get_or_append_left, get_or-append-add}
use Rattle.std.proofs.lemmas.List.Quantifiers.{all_pairs_push}
use Rattle.hive_model.specs.Walk.{Check, uses, tests, clash, clashes, AreUsedOnce}
use Rattle.std.proofs.lemmas.Bool.{or_parts}

-- no use clashes with one of these checks, nor with one between
abbrev pub OnceBehind : List Check → List Check → Type 0
OnceBehind before [] = Unit {0}
OnceBehind before (uses at security ∷ cs) =
    (list_any (clash at security) before ≡ false) × OnceBehind (before ++ uses at security ∷ []) cs
OnceBehind before (tests at kind ∷ cs) = OnceBehind (before ++ tests at kind ∷ []) cs

abbrev Apart : Check → Check → Type 0
Apart earlier later = clashes earlier later ≡ false

-- a test that no item passes, item by item
none_passes : {X : Type 0} (p : X → Bool) (xs : List X) → list_any p xs ≡ false → (k : ℕ) (d : X) → k < length xs
    → p (get_or xs k d) ≡ false
none_passes p [] e k d lt = absurd (omega (arith, lt))
none_passes p (x ∷ xs) e zero d lt = (or_parts (p x) (list_any p xs) e).0
none_passes p (x ∷ xs) e (suc k) d lt = none_passes p xs (or_parts (p x) (list_any p xs) e).1 k d (omega (arith, lt))

passes_none : {X : Type 0} (p : X → Bool) (xs : List X) → ((k : ℕ) (d : X) → k < length xs → p (get_or xs k d) ≡ false)
    → list_any p xs ≡ false
passes_none p [] each = refl
passes_none p (x ∷ xs) each =
    rw (each 0 x (omega arith)) (passes_none p xs (λ k d lt. each (suc k) d (omega (arith, lt))))

-- checks that are used once, and further ones
pub pairs_from_once : (before cs : List Check) → AllPairs Apart before → OnceBehind before cs
    → AllPairs Apart (before ++ cs)
pairs_from_once before [] apart once = subst (AllPairs Apart) (sym (append-nil before)) apart
pairs_from_once before (uses at security ∷ cs) apart once =
    let more = all_pairs_push Apart before (uses at security) apart (none_passes (clash at security) before once.0) in
    subst (AllPairs Apart) (append_assoc before (uses at security ∷ []) cs)
    (pairs_from_once (before ++ uses at security ∷ []) cs more once.1)
pairs_from_once before (tests at kind ∷ cs) apart once =
    let more = all_pairs_push Apart before (tests at kind) apart (λ k d lt. refl) in
    subst (AllPairs Apart) (append_assoc before (tests at kind ∷ []) cs)
    (pairs_from_once (before ++ tests at kind ∷ []) cs more once)

pub used_once : (cs : List Check) → OnceBehind [] cs → AreUsedOnce cs
used_once cs once = pairs_from_once [] cs (λ i j d less below. absurd (omega (arith, below))) once

-- the check after some is apart from each of them
apart_from : (before cs : List Check) (c : Check) → AllPairs Apart (before ++ c ∷ cs) → (k : ℕ) (d : Check)
    → k < length before → Apart (get_or before k d) c
apart_from before cs c apart k d lt =
    let both = apart k (length before) d lt (omega (arith, length-append before (c ∷ cs))) in
    let one : get_or (before ++ c ∷ cs) k d ≡ get_or before k d = get_or_append_left before (c ∷ cs) d k lt in
    let other : get_or (before ++ c ∷ cs) (length before) d ≡ c =
    ap (λ n. get_or (before ++ c ∷ cs) n d) (omega arith) ∙ get_or-append-add before (c ∷ cs) 0 d in
    rw (one, other) at both

pub once_from_pairs : (before cs : List Check) → AllPairs Apart (before ++ cs) → OnceBehind before cs
once_from_pairs before [] apart = tt
once_from_pairs before (uses at security ∷ cs) apart = (
  passes_none (clash at security) before (apart_from before cs (uses at security) apart),
  once_from_pairs (before ++ uses at security ∷ []) cs
      (subst (AllPairs Apart) (sym (append_assoc before (uses at security ∷ []) cs)) apart),
)
once_from_pairs before (tests at kind ∷ cs) apart =
    once_from_pairs (before ++ tests at kind ∷ []) cs
    (subst (AllPairs Apart) (sym (append_assoc before (tests at kind ∷ []) cs)) apart)
