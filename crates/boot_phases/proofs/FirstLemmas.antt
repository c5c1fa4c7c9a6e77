-- Where what passes a test stands first: in a list that grows, in a mapped list, and in a map from tags to places.
use Rattle.std.proofs.Common.{◌≡◌, ℕ, ◌+◌, ◌<◌, ◌≤◌, Bool, true, false, cond, not, eqb, ltb, nat_eq, List, [], ◌∷◌, ◌++◌, length, map, take, get_or, Option, Some, None, ◌⊎◌, inl, inr, ⊎_elim, refl, sym, ap, ◌∙◌, arith, length-take, length-append}
use Rattle.std.specs.Prelude.{◌↔◌, IsTrue, find, option_and_then, position, slice_get}
use Rattle.std.specs.List.{list_any, position_or_len}
use Rattle.std.specs.Option.{is_some, option_or}
use Rattle.std.specs.Ordering.{nat_cmp}
use Rattle.std.specs.BTreeMap.{BTreeMap, get, is_at}
use Rattle.std.proofs.lemmas.Bool.{both_ways, cases_Bool, cases_lt, cases_eq, eq-eqb, ne_eqb, le-ltb, lt-ltb}
use Rattle.std.proofs.lemmas.Bool.Decides.{nat_tests}
use Rattle.std.proofs.lemmas.List.{get_or-take, get_or_default, length-map}
use Rattle.std.proofs.lemmas.Option.{slice_get_past}
use Rattle.std.proofs.lemmas.List.Folds.{Any-from_list_any, find_at, list_any_at, position_or_len_push}
use Rattle.std.proofs.lemmas.List.Quantifiers.{position-Some}
use Rattle.std.proofs.lemmas.List.Sums.{position_or_len_is}
use Rattle.boot_phases.specs.group_order.FirstPlaces.{HasFirstPlaces}
use Rattle.reg_tree.proofs.Halving.{first_within}

-- a place, where it lies in a list of this length
abbrev within : ℕ → ℕ → Option ℕ
within n len = cond (ltb n len) (Some n) None

one_longer : (n len : ℕ) (b : Bool) → n ≤ len
    → within (cond (eqb n len) (len + cond b 0 1) n) (len + 1) ≡ option_or (within n len) (cond b (Some len) None)
one_longer n len true h =
    ⊎_elim (λ below. grind (arith, nat_tests)) (λ above. grind (arith, nat_tests)) (cases_lt n len)
one_longer n len false h =
    ⊎_elim (λ below. grind (arith, nat_tests)) (λ above. grind (arith, nat_tests)) (cases_lt n len)

-- what stands after a list is first where nothing in the list passes
pub position_push : {X : Type 0} (p : X → Bool) (xs : List X) (y : X)
    → position p (xs ++ y ∷ []) ≡ option_or (position p xs) (cond (p y) (Some (length xs)) None)
position_push p xs y =
    ap (λ n. within n (length (xs ++ y ∷ []))) (position_or_len_push p xs y)
    ∙ ap (λ len. within (cond (eqb (position_or_len p xs) (length xs)) (length xs + cond (p y) 0 1)
    (position_or_len p xs)) len) (length-append xs (y ∷ []))
    ∙ one_longer (position_or_len p xs) (length xs) (p y) (first_within p xs)

first-map : {X Y : Type 0} (p : Y → Bool) (f : X → Y) (xs : List X)
    → position_or_len p (map f xs) ≡ position_or_len (λ x. p (f x)) xs
first-map p f [] = refl
first-map p f (x ∷ xs) = ap (λ n. cond (not (p (f x))) (1 + n) 0) (first-map p f xs)

-- an element that passes is the first one where none before it does
pub first_at : {X : Type 0} (p : X → Bool) (xs : List X) (i : ℕ) (d : X) (first : Bool) → i < length xs
    → p (get_or xs i d) ≡ true → (IsTrue first ↔ position p xs ≡ Some i) → first ≡ not (list_any p (take i xs))
first_at {X} p xs i d first lt passes is = by_case (cases_Bool (list_any p (take i xs))) (cases_Bool first)
  where
    absent : list_any p (take i xs) ≡ false → (k : ℕ) → k < i → p (get_or xs k d) ≡ false
    absent none k below = ⊎_elim
        (λ h. absurd (both_ways _ none
        (list_any_at p (take i xs) k d (omega (arith, below, lt, length-take i xs))
        (ap p (get_or-take i xs k d below) ∙ h))))
        (λ h. h)
        (cases_Bool (p (get_or xs k d)))

    by_case : (list_any p (take i xs) ≡ true) ⊎ (list_any p (take i xs) ≡ false) → (first ≡ true) ⊎ (first ≡ false)
        → first ≡ not (list_any p (take i xs))
    by_case (inl some) (inl foremost) =
        let any = Any-from_list_any p (take i xs) some in
        let below : any.0 < i = omega (arith, any.2, length-take i xs) in
        let at : get_or xs any.0 d ≡ any.1 =
        sym (get_or-take i xs any.0 d below) ∙ get_or_default (take i xs) any.0 d any.1 any.2 ∙ any.3 in
        absurd (both_ways (p (get_or xs any.0 d)) ((position-Some p xs i d (is.0 foremost)).2 any.0 below)
        (ap p at ∙ any.4))
    by_case (inl some) (inr later) = later ∙ ap not (sym some)
    by_case (inr none) one =
        let place : position_or_len p xs ≡ i = position_or_len_is p xs i d (omega arith) (absent none) (λ _. passes) in
        is.1 (ap (λ n. within n (length xs)) place ∙ ap (λ b. cond b (Some i) None) (lt-ltb i (length xs) lt))
        ∙ ap not (sym none)

-- a place in a mapped list is that in the list
pub position-map : {X Y : Type 0} (p : Y → Bool) (f : X → Y) (xs : List X)
    → position p (map f xs) ≡ position (λ x. p (f x)) xs
position-map p f xs = ap (λ n. within n (length (map f xs))) (first-map p f xs)
    ∙ ap (within (position_or_len (λ x. p (f x)) xs)) (length-map xs f)

got_within : {X : Type 0} (xs : List X) (n : ℕ) → slice_get xs n ≡ option_and_then (slice_get xs) (within n (length xs))
got_within xs n = by_case (cases_lt n (length xs))
  where
    by_case : (n < length xs) ⊎ (length xs ≤ n) → slice_get xs n ≡ option_and_then (slice_get xs) (within n (length xs))
    by_case (inl below) = ap (λ b. option_and_then (slice_get xs) (cond b (Some n) None))
        (sym (lt-ltb n (length xs) below))
    by_case (inr past) = slice_get_past xs n past
        ∙ ap (λ b. option_and_then (slice_get xs) (cond b (Some n) None)) (sym (le-ltb n (length xs) past))

-- what passes first is what is at the first place
pub find_at_place : {X : Type 0} (p : X → Bool) (xs : List X)
    → find p xs ≡ option_and_then (slice_get xs) (position p xs)
find_at_place p xs = find_at p xs ∙ got_within xs (position_or_len p xs)

or_kept : {X : Type 0} (o rest : Option X) → is_some o ≡ true → o ≡ option_or o rest
or_kept (Some x) rest h = refl
or_kept None rest h = absurd cc

or_none : {X : Type 0} (o : Option X) → o ≡ option_or o None
or_none (Some x) = refl
or_none None = refl

none_or : {X : Type 0} (o rest : Option X) → is_some o ≡ false → rest ≡ option_or o rest
none_or (Some x) rest h = absurd cc
none_or None rest h = refl

is_at-nat_cmp : (t q : ℕ) → is_at (nat_cmp t) q ≡ nat_eq t q
is_at-nat_cmp t q = grind (arith, nat_tests)

-- a tag that is listed already leaves all places as they are
pub place_kept : (places : BTreeMap ℕ ℕ) (tags : List ℕ) (t : ℕ) → HasFirstPlaces places tags
    → is_some (get nat_cmp places t) ≡ true → HasFirstPlaces places (tags ++ t ∷ [])
place_kept places tags t has listed =
    record { at = λ q. has.at q ∙ here q (cases_eq t q) ∙ sym (position_push (λ x. nat_eq x q) tags t) }
  where
    here : (q : ℕ) → (t ≡ q) ⊎ (t ≡ q → ⊥)
        → position (λ x. nat_eq x q) tags
        ≡ option_or (position (λ x. nat_eq x q) tags) (cond (nat_eq t q) (Some (length tags)) None)
    here q (inl same) = or_kept _ _
        (ap is_some (sym (has.at q)) ∙ ap (λ k. is_some (get nat_cmp places k)) (sym same) ∙ listed)
    here q (inr other) = or_none (position (λ x. nat_eq x q) tags)
        ∙ ap (λ b. option_or (position (λ x. nat_eq x q) tags) (cond b (Some (length tags)) None))
        (sym (ne_eqb t q other))

-- a new one stands after them all
pub place_added : (places more : BTreeMap ℕ ℕ) (tags : List ℕ) (t : ℕ) → HasFirstPlaces places tags
    → is_some (get nat_cmp places t) ≡ false
    → ((q : ℕ) → get nat_cmp more q ≡ cond (is_at (nat_cmp t) q) (Some (length tags)) (get nat_cmp places q))
    → HasFirstPlaces more (tags ++ t ∷ [])
place_added places more tags t has new is =
    record {
      at = λ q. is q ∙ ap (λ b. cond b (Some (length tags)) (get nat_cmp places q)) (is_at-nat_cmp t q)
          ∙ here q (cases_eq t q) ∙ sym (position_push (λ x. nat_eq x q) tags t);
    }
  where
    here : (q : ℕ) → (t ≡ q) ⊎ (t ≡ q → ⊥)
        → cond (nat_eq t q) (Some (length tags)) (get nat_cmp places q)
        ≡ option_or (position (λ x. nat_eq x q) tags) (cond (nat_eq t q) (Some (length tags)) None)
    here q (inl same) =
        let first : Option ℕ = cond (nat_eq t q) (Some (length tags)) None in
        ap (λ b. cond b (Some (length tags)) (get nat_cmp places q)) (eq-eqb t q same)
        ∙ ap (λ b. cond b (Some (length tags)) None) (sym (eq-eqb t q same))
        ∙ none_or (position (λ x. nat_eq x q) tags) first
        (ap is_some (sym (has.at q)) ∙ ap (λ k. is_some (get nat_cmp places k)) (sym same) ∙ new)
    here q (inr other) =
        ap (λ b. cond b (Some (length tags)) (get nat_cmp places q)) (ne_eqb t q other) ∙ has.at q
        ∙ or_none (position (λ x. nat_eq x q) tags)
        ∙ ap (λ b. option_or (position (λ x. nat_eq x q) tags) (cond b (Some (length tags)) None))
        (sym (ne_eqb t q other))
