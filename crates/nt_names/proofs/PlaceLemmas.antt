-- The places of a name: each of them is one, and each one is among them.
use Rattle.std.proofs.Common.{◌≡◌, ℕ, suc, ◌+◌, ◌<◌, Bool, true, false, cond, List, [], ◌∷◌, length, get_or, Option, Some, None, ap, sym, ◌∙◌, refl, arith, zero-add}
use Rattle.std.specs.List.{All, Contains, range_with_len, position, position_from, slice_get, filter}
use Rattle.std.specs.Option.{IfSome}
use Rattle.std.proofs.lemmas.List.{get_or_default}
use Rattle.std.proofs.lemmas.List.Quantifiers.{position-Some}
use Rattle.std.proofs.lemmas.List.Elements.{All-filter, filter_passes}
use Rattle.std.proofs.lemmas.List.FromFn.{length-range_with_len, get_or-range_with_len}
use Rattle.std.proofs.lemmas.Iterator.Adapters.{position_from-zero}
use Rattle.nt_bytes.specs.Folding.{folds_same}
use Rattle.nt_names.specs.name_places.Places.{places_named}
use Rattle.nt_names.proofs.FilterLemmas.{Contains-filter}

-- each place is below the length
below : (n : ℕ) → All (λ k. k < n) (range_with_len 0 n)
below n k d lt =
    let small : k < n = omega (arith, lt, length-range_with_len 0 n) in
    rw (get_or-range_with_len 0 n k d small) (omega arith)

-- each of the places is one of the list, at which the name folds as this one does
pub all_named : (name : List ℕ) (names : List (List ℕ))
    → All (λ k. (k < length names) × (folds_same name (get_or names k []) ≡ true)) (places_named name names)
all_named name names k d lt =
    let test = λ (k : ℕ). folds_same name (get_or names k []) in (
      All-filter test (λ k. k < length names) (range_with_len 0 (length names)) (below (length names)) k d lt,
      filter_passes test (range_with_len 0 (length names)) k d lt,
    )

-- each such place is one of them
pub each_named : (name : List ℕ) (names : List (List ℕ)) (k : ℕ) → k < length names
    → folds_same name (get_or names k []) ≡ true → Contains (places_named name names) k
each_named name names k lt same =
    let all = range_with_len 0 (length names) in
    Contains-filter (λ k. folds_same name (get_or names k [])) all k (
      k,
      omega (arith, lt, length-range_with_len 0 (length names)),
      get_or-range_with_len 0 (length names) k k lt
          ∙ zero-add k,
    ) same

-- the first of the places, by the test at the foremost one
first_of : (b : Bool) (k : ℕ) (ks : List ℕ) (r : Option ℕ) → slice_get ks 0 ≡ r
    → slice_get (cond b (k ∷ ks) ks) 0 ≡ cond b (Some k) r
first_of true k ks r h = refl
first_of false k ks r h = h

-- the first place from a on that passes q, where q judges a place as p does the element there
first_from : {X : Type 0} (p : X → Bool) (q : ℕ → Bool) (xs : List X) (a : ℕ)
    → ((k : ℕ) (d : X) → k < length xs → q (a + k) ≡ p (get_or xs k d))
    → slice_get (filter q (range_with_len a (length xs))) 0 ≡ position_from p a xs
first_from p q [] a same = refl
first_from p q (x ∷ xs) a same =
    let others = filter q (range_with_len (a + 1) (length xs)) in
    ap (λ b. slice_get (cond b (a ∷ others) others) 0) here
    ∙ first_of (p x) a others (position_from p (a + 1) xs) (first_from p q xs (a + 1) later)
  where
    here : q a ≡ p x
    here = let at : a ≡ a + 0 = omega arith in ap q at ∙ same 0 x (omega arith)

    later : (k : ℕ) (d : _) → k < length xs → q (a + 1 + k) ≡ p (get_or xs k d)
    later k d lt = let at : a + 1 + k ≡ a + suc k = omega arith in ap q at ∙ same (suc k) d (omega (arith, lt))

-- the first of them is the first place in the list
pub first_named : (name : List ℕ) (names : List (List ℕ))
    → slice_get (places_named name names) 0 ≡ position (folds_same name) names
first_named name names = first_from (folds_same name) (λ k. folds_same name (get_or names k [])) names 0 same
    ∙ sym (position_from-zero (folds_same name) names)
  where
    same : (k : ℕ) (d : List ℕ) → k < length names
        → folds_same name (get_or names (0 + k) []) ≡ folds_same name (get_or names k d)
    same k d lt = ap (λ j. folds_same name (get_or names j [])) (zero-add k)
        ∙ ap (folds_same name) (get_or_default names k [] d lt)

-- it is one of the list
pub place_within : (name : List ℕ) (names : List (List ℕ)) (r : Option ℕ) → r ≡ position (folds_same name) names
    → IfSome r (λ at. at < length names)
place_within name names None is = tt
place_within name names (Some at) is = (position-Some (folds_same name) names at [] (sym is)).0
