-- Lists whose items have names that rise: what a binary search finds in them, and what keeps them rising.
use Rattle.std.proofs.Common.{◌≡◌, ℕ, zero, suc, ◌-◌, ◌≤◌, ◌<◌, Bool, true, false, not, List, [], ◌∷◌, ◌++◌, length, get_or, Option, Some, None, refl, sym, ap, subst, ◌∙◌, arith, inl, inr}
use Rattle.std.specs.Prelude.{position, find, slice_get, MatchOption}
use Rattle.std.specs.Option.{option_map}
use Rattle.std.proofs.lemmas.Option.{slice_get-get_or, slice_get_past}
use Rattle.std.proofs.lemmas.List.Folds.{find_at}
use Rattle.std.specs.List.{All, AllPairs, AllWithin, IsFirstMatchOrLen, position_or_len, insert}
use Rattle.std.specs.List.Sorted.{IsPartitionedBy, IsPartitionPoint}
use Rattle.std.specs.Cmp.{IsStrictWeakOrder}
use Rattle.std.specs.Cmp.Lexicographic.{nat_list_cmp_total}
use Rattle.std.specs.Ordering.{ordering_reverse, is_eq, is_gt, is_lt}
use Rattle.std.specs.declared.cmp.Ordering.{Ordering}
use Rattle.std.specs.declared.cmp.Ordering.TheVariants.{Less, Equal, Greater}
use Rattle.std.proofs.Math.ListN.{set}
use Rattle.std.proofs.lemmas.List.{length-set, get_or_default}
use Rattle.std.proofs.lemmas.List.Kept.{AllPairs-cons}
use Rattle.std.proofs.lemmas.List.Quantifiers.{all_pairs_push}
use Rattle.std.proofs.lemmas.Bool.{cases_Bool, cases_lt, both_ways, lt-ltb, le-ltb}
use Rattle.std.proofs.lemmas.List.Sorted.{ranks_by}
use Rattle.nt_bytes.specs.Folding.{folded, folds_same, folded_order}
use Rattle.nt_names.proofs.FoldLemmas.{same_from_order}
use Rattle.hive_model.specs.Tree.{Tree, head}
use Rattle.hive_model.specs.Edit.{placed}
use Rattle.reg_tree.specs.Places.{folds_greater}
use Rattle.reg_tree.proofs.Unlike.{Each, each_from, each_all}
use Rattle.nt_names.proofs.OrderLemmas.{less_differs}

-- ---- the first place that passes a test

pub first_is : {X : Type 0} (p : X → Bool) (xs : List X) (i : ℕ) → IsFirstMatchOrLen p xs i → i ≤ length xs
    → position_or_len p xs ≡ i
first_is p [] i f within = omega (arith, within)
first_is p (x ∷ xs) zero f within = let e : p x ≡ true = f.1 (omega arith) x in rw e refl
first_is p (x ∷ xs) (suc i) f within =
    let e : p x ≡ false = f.0 0 x (omega arith) (omega arith) in
    let rest = first_is p xs i
    (λ k d from to. f.0 (suc k) d (omega arith) (omega (arith, to)), λ lt d. f.1 (omega (arith, lt)) d)
    (omega (arith, within)) in
    rw (e, rest) (omega arith)

pub position_found : {X : Type 0} (p : X → Bool) (xs : List X) (i : ℕ) → i < length xs → IsFirstMatchOrLen p xs i
    → position p xs ≡ Some i
position_found p xs i within f = rw (first_is p xs i f (omega (arith, within)), lt-ltb _ _ within) refl

pub position_absent : {X : Type 0} (p : X → Bool) (xs : List X) → All (λ x. p x ≡ false) xs → position p xs ≡ None
position_absent p xs none =
    rw (
      first_is p xs (length xs) (λ k d from to. none k d to, λ lt d. absurd (omega (arith, lt))) (omega arith),
      le-ltb (length xs) (length xs) (omega arith),
    ) refl

first_here : {X : Type 0} (p : X → Bool) (x : X) (xs : List X) → p x ≡ true → position_or_len p (x ∷ xs) ≡ 0
first_here p x xs e = rw e refl

first_later : {X : Type 0} (p : X → Bool) (x : X) (xs : List X) → p x ≡ false
    → position_or_len p (x ∷ xs) ≡ suc (position_or_len p xs)
first_later p x xs e = rw e (omega arith)

pub first_within : {X : Type 0} (p : X → Bool) (xs : List X) → position_or_len p xs ≤ length xs
first_within p [] = omega arith
first_within p (x ∷ xs) =
    elim (cases_Bool (p x)) [
      | inl here ↦ omega (arith, first_here p x xs here)
      | inr later ↦ omega (arith, first_later p x xs later, first_within p xs)
    ]

pub first_passes : {X : Type 0} (p : X → Bool) (xs : List X) → IsFirstMatchOrLen p xs (position_or_len p xs)
first_passes p [] = (λ k d from to. absurd (omega (arith, to)), λ lt d. absurd (omega (arith, lt)))
first_passes p (x ∷ xs) = go (p x) refl (first_passes p xs)
  where
    before : p x ≡ false → AllWithin (λ y. p y ≡ false) xs 0 (position_or_len p xs)
        → AllWithin (λ y. p y ≡ false) (x ∷ xs) 0 (suc (position_or_len p xs))
    before e rest zero d from to = e
    before e rest (suc k) d from to = rest k d (omega arith) (omega (arith, to))

    go : (b : Bool) → p x ≡ b → IsFirstMatchOrLen p xs (position_or_len p xs)
        → IsFirstMatchOrLen p (x ∷ xs) (position_or_len p (x ∷ xs))
    go true e rest = subst (IsFirstMatchOrLen p (x ∷ xs)) (sym (first_here p x xs e))
        (λ k d from to. absurd (omega (arith, to)), λ lt d. e)
    go false e rest = subst (IsFirstMatchOrLen p (x ∷ xs)) (sym (first_later p x xs e))
        (before e rest.0, λ lt d. rest.1 (omega (arith, lt)) d)

pub position_first : {X : Type 0} (p : X → Bool) (xs : List X) (i : ℕ) → position p xs ≡ Some i
    → position_or_len p xs ≡ i
position_first p xs i e = elim (cases_lt (position_or_len p xs) (length xs)) [
  | inl lt ↦ let there : position p xs ≡ Some (position_or_len p xs) = rw (lt-ltb _ _ lt) refl in cc
  | inr past ↦ let none : position p xs ≡ None = rw (le-ltb _ _ past) refl in absurd cc
]

pub position_past : {X : Type 0} (p : X → Bool) (xs : List X) → position p xs ≡ None → position_or_len p xs ≡ length xs
position_past p xs e = elim (cases_lt (position_or_len p xs) (length xs)) [
  | inl lt ↦ let there : position p xs ≡ Some (position_or_len p xs) = rw (lt-ltb _ _ lt) refl in absurd cc
  | inr past ↦ omega (arith, past, first_within p xs)
]

pub none_pass : {X : Type 0} (p : X → Bool) (xs : List X) → position p xs ≡ None → All (λ x. p x ≡ false) xs
none_pass p xs none k d within =
    (first_passes p xs).0 k d (omega arith) (omega (arith, within, position_past p xs none))

-- what is at the first place
pub found_item : {R X : Type 0} (now : R → X) (p : X → Bool) (xs : List X) (i : ℕ) (r : Option R)
    → MatchOption r (length xs ≤ i) (λ x. (i < length xs) × ((d : X) → now x ≡ get_or xs i d)) → position p xs ≡ Some i
    → option_map now r ≡ find p xs
found_item now p xs i (Some x) at first =
    ap (λ y. Some y) (at.1 (now x)) ∙ sym (slice_get-get_or xs i (now x) at.0)
    ∙ ap (λ (k : ℕ). slice_get xs k) (sym (position_first p xs i first)) ∙ sym (find_at p xs)
found_item now p xs i None past first =
    sym (slice_get_past xs i past) ∙ ap (λ (k : ℕ). slice_get xs k) (sym (position_first p xs i first))
    ∙ sym (find_at p xs)

pub found_none : {X : Type 0} (p : X → Bool) (xs : List X) → position p xs ≡ None → find p xs ≡ None
found_none p xs none = find_at p xs ∙ ap (λ (k : ℕ). slice_get xs k) (position_past p xs none)
    ∙ slice_get_past xs (length xs) (omega arith)

-- ---- the folded order

pub folds : IsStrictWeakOrder (λ a b. is_lt (folded_order a b))
folds = ranks_by nat_list_cmp_total folded

reversed_gt : (r : Ordering) → is_gt r ≡ is_lt (ordering_reverse r)
reversed_gt Less = refl
reversed_gt Equal = refl
reversed_gt Greater = refl

pub greater_is_less : (a b : List ℕ) → is_gt (folded_order a b) ≡ is_lt (folded_order b a)
greater_is_less a b = reversed_gt (folded_order a b)
    ∙ sym (ap is_lt (nat_list_cmp_total.antisymm (folded b) (folded a)))

greater_differs : (r : Ordering) → is_gt r ≡ true → is_eq r ≡ false
greater_differs Less h = refl
greater_differs Equal h = sym h
greater_differs Greater h = refl

greater_not_less : (r : Ordering) → is_gt r ≡ true → is_lt r ≡ false
greater_not_less Less h = sym h
greater_not_less Equal h = refl
greater_not_less Greater h = refl

pub greater_left : (r : Ordering) → is_lt r ≡ false → is_eq r ≡ false → is_gt r ≡ true
greater_left Less l e = sym l
greater_left Equal l e = sym e
greater_left Greater l e = refl

-- a is not greater than b, which is less than c
not_greater_less : (a b c : List ℕ) → is_lt (folded_order b a) ≡ false → is_lt (folded_order b c) ≡ true
    → is_lt (folded_order a c) ≡ true
not_greater_less a b c up less = elim (cases_Bool (is_lt (folded_order a c))) [
  | inl less ↦ less
  | inr not_so ↦ absurd (both_ways (is_lt (folded_order b c)) (folds.chain b a c up not_so) less)
]

-- c is less than a, which is not greater than b
less_not_greater : (a b c : List ℕ) → is_lt (folded_order c a) ≡ true → is_lt (folded_order b a) ≡ false
    → is_lt (folded_order c b) ≡ true
less_not_greater a b c less up = elim (cases_Bool (is_lt (folded_order c b))) [
  | inl less ↦ less
  | inr not_so ↦ absurd (both_ways (is_lt (folded_order c a)) (folds.chain c b a not_so up) less)
]

greater_still : (a b c : List ℕ) → is_gt (folded_order a c) ≡ true → is_lt (folded_order b a) ≡ false
    → is_gt (folded_order b c) ≡ true
greater_still a b c greater up = greater_is_less b c ∙ less_not_greater a b c (sym (greater_is_less a c) ∙ greater) up

-- ---- searches

-- no item has a name that stands before that of an earlier one
abbrev pub Rising : {X : Type 0} → (X → List ℕ) → List X → Type 0
Rising name xs = AllPairs (λ a b. is_lt (folded_order (name b) (name a)) ≡ false) xs

abbrev pub EndsAt : {X : Type 0} → (X → Bool) → List X → ℕ → Type 0
EndsAt p xs i = IsPartitionPoint (λ x. p x ≡ true) (λ x. p x ≡ false) xs i

pub not_of : (b : Bool) → not b ≡ true → b ≡ false
not_of true h = sym h
not_of false h = refl

of_not : (b : Bool) → not b ≡ false → b ≡ true
of_not true h = refl
of_not false h = sym h

module _ {X : Type 0} (name : X → List ℕ) (q : List ℕ) where
  abbrev pub less : X → Bool
  less x = is_lt (folded_order (name x) q)

  abbrev pub not_greater : X → Bool
  not_greater x = not (is_gt (folded_order (name x) q))

  abbrev pub named : X → Bool
  named x = folds_same q (name x)

  pub less_first : (xs : List X) → Rising name xs → IsPartitionedBy less xs
  less_first xs up i j d upto within p = elim (cases_lt i j) [
    | inl lt ↦ not_greater_less (name (get_or xs i d)) (name (get_or xs j d)) q (up i j d lt within) p
    | inr ge ↦ let same : i ≡ j = omega (arith, upto, ge) in ap (λ (k : ℕ). less (get_or xs k d)) same ∙ p
  ]

  pub not_greater_first : (xs : List X) → Rising name xs → IsPartitionedBy not_greater xs
  not_greater_first xs up i j d upto within p = elim (cases_lt i j) [
    | inl lt ↦ elim (cases_Bool (is_gt (folded_order (name (get_or xs i d)) q))) [
      | inl greater ↦ absurd (both_ways (is_gt (folded_order (name (get_or xs j d)) q)) (not_of _ p)
          (greater_still (name (get_or xs i d)) (name (get_or xs j d)) q greater (up i j d lt within)))
      | inr not_so ↦ ap not not_so
    ]
    | inr ge ↦ let same : i ≡ j = omega (arith, upto, ge) in ap (λ (k : ℕ). not_greater (get_or xs k d)) same ∙ p
  ]

  -- the search for the first that does not stand before q ends at one of this name
  pub halved_found : (xs : List X) (low : ℕ) → EndsAt less xs low → low < length xs
      → ((d : X) → named (get_or xs low d) ≡ true) → position named xs ≡ Some low
  halved_found xs low ends within same =
      position_found named xs low within (
        λ k d from to. same_from_order q (name (get_or xs k d))
            ∙ less_differs (folded_order (name (get_or xs k d)) q) (ends.0 k d from to),
        λ lt d. same d,
      )

  -- it ends at another, or after all
  pub halved_none : (xs : List X) (low : ℕ) → Rising name xs → EndsAt less xs low → low ≤ length xs
      → (low < length xs → (d : X) → named (get_or xs low d) ≡ false) → All (λ x. named x ≡ false) xs
  halved_none xs low up ends most other k d within = elim (cases_lt k low) [
    | inl before ↦ same_from_order q (name (get_or xs k d))
        ∙ less_differs (folded_order (name (get_or xs k d)) q) (ends.0 k d (omega arith) before)
    | inr from ↦ elim (cases_lt low k) [
      | inl behind ↦
          let there : low < length xs = omega (arith, behind, within) in
          let r = folded_order (name (get_or xs low d)) q in
          let above : is_gt r ≡ true =
          greater_left r (ends.1 low d (omega arith) there)
          (sym (same_from_order q (name (get_or xs low d))) ∙ other there d) in
          same_from_order q (name (get_or xs k d))
          ∙ greater_differs (folded_order (name (get_or xs k d)) q)
          (greater_still (name (get_or xs low d)) (name (get_or xs k d)) q above (up low k d behind within))
      | inr upto ↦ let same : k ≡ low = omega (arith, from, upto) in
          ap (λ (m : ℕ). named (get_or xs m d)) same ∙ other (omega (arith, same, within)) d
    ]
  ]

  pub halved_absent : (xs : List X) (low : ℕ) → Rising name xs → EndsAt less xs low → low ≤ length xs
      → (low < length xs → (d : X) → named (get_or xs low d) ≡ false) → position named xs ≡ None
  halved_absent xs low up ends most other = position_absent named xs (halved_none xs low up ends most other)

  -- the same by the item where the search ends
  pub halved_at : (xs : List X) (low : ℕ) (x : X) → EndsAt less xs low
      → (low < length xs) × ((d : X) → x ≡ get_or xs low d) → named x ≡ true → position named xs ≡ Some low
  halved_at xs low x ends at same = halved_found xs low ends at.0 (λ d. sym (ap named (at.1 d)) ∙ same)

  pub halved_other : (xs : List X) (low : ℕ) (x : X) → Rising name xs → EndsAt less xs low → low ≤ length xs
      → ((d : X) → x ≡ get_or xs low d) → named x ≡ false → position named xs ≡ None
  halved_other xs low x up ends most at other =
      halved_absent xs low up ends most (λ within d. sym (ap named (at d)) ∙ other)

  -- the search for the first that is greater
  pub halved_gap : (xs : List X) (i : ℕ) → EndsAt not_greater xs i → i ≤ length xs
      → position_or_len (λ x. is_gt (folded_order (name x) q)) xs ≡ i
  halved_gap xs i ends most =
      first_is (λ x. is_gt (folded_order (name x) q)) xs i
      (λ k d from to. not_of _ (ends.0 k d from to), λ lt d. of_not _ (ends.1 i d (omega arith) lt)) most

-- ---- lists that stay so

abbrev pub Ordered : {X : Type 0} → (X → X → Type 0) → List X → Type 0
Ordered R [] = Unit {0}
Ordered R (x ∷ xs) = Each (R x) xs × Ordered R xs

ordered_from : {X : Type 0} (R : X → X → Type 0) (xs : List X) → AllPairs R xs → Ordered R xs
ordered_from R [] h = tt
ordered_from R (x ∷ xs) h = (
  each_from (R x) xs (λ k d within. h 0 (suc k) d (omega arith) (omega (arith, within))),
  ordered_from R xs (λ i j d lt within. h (suc i) (suc j) d (omega (arith, lt)) (omega (arith, within))),
)

ordered_pairs : {X : Type 0} (R : X → X → Type 0) (xs : List X) → Ordered R xs → AllPairs R xs
ordered_pairs R [] h = λ i j d lt within. absurd (omega (arith, within))
ordered_pairs R (x ∷ xs) h = AllPairs-cons R x xs (each_all (R x) xs h.0) (ordered_pairs R xs h.1)

each_insert : {X : Type 0} (P : X → Type 0) (xs : List X) (i : ℕ) (y : X) → P y → Each P xs → Each P (insert xs i y)
each_insert P [] zero y own h = (own, tt)
each_insert P [] (suc i) y own h = (own, tt)
each_insert P (x ∷ xs) zero y own h = (own, h)
each_insert P (x ∷ xs) (suc i) y own h = (h.0, each_insert P xs i y own h.1)

-- an insert between what may stand before it and what may stand after it
pub pairs_insert : {X : Type 0} (R : X → X → Type 0) (xs : List X) (i : ℕ) (y : X) → AllPairs R xs
    → ((k : ℕ) (d : X) → k < i → k < length xs → R (get_or xs k d) y)
    → ((k : ℕ) (d : X) → i ≤ k → k < length xs → R y (get_or xs k d)) → AllPairs R (insert xs i y)
pairs_insert {X} R xs i y up before behind =
    ordered_pairs R (insert xs i y) (go xs i (ordered_from R xs up) before behind)
  where
    go : (xs : List X) (i : ℕ) → Ordered R xs → ((k : ℕ) (d : X) → k < i → k < length xs → R (get_or xs k d) y)
        → ((k : ℕ) (d : X) → i ≤ k → k < length xs → R y (get_or xs k d))
        → Ordered R (insert xs i y)
    go [] zero h b c = (tt, tt)
    go [] (suc i) h b c = (tt, tt)
    go (x ∷ xs) zero h b c = (each_from (R y) (x ∷ xs) (λ k d within. c k d (omega arith) within), h)
    go (x ∷ xs) (suc i) h b c = (
      each_insert (R x) xs i y (b 0 x (omega arith) (omega arith)) h.0,
      go xs i h.1 (λ k d lt within. b (suc k) d (omega (arith, lt)) (omega (arith, within)))
          (λ k d upto within. c (suc k) d (omega (arith, upto)) (omega (arith, within))),
    )

name_set : {X N : Type 0} (name : X → N) (xs : List X) (i : ℕ) (y d : X) → name y ≡ name (get_or xs i d) → (k : ℕ)
    → name (get_or (set xs i y) k d) ≡ name (get_or xs k d)
name_set name [] i y d same k = refl
name_set name (x ∷ xs) zero y d same zero = same
name_set name (x ∷ xs) zero y d same (suc k) = refl
name_set name (x ∷ xs) (suc i) y d same zero = refl
name_set name (x ∷ xs) (suc i) y d same (suc k) = name_set name xs i y d same k

-- another item of the same name
pub pairs_set : {X N : Type 0} (Q : N → N → Type 0) (name : X → N) (xs : List X) (i : ℕ) (y e : X) → i < length xs
    → name y ≡ name (get_or xs i e) → AllPairs (λ a b. Q (name a) (name b)) xs
    → AllPairs (λ a b. Q (name a) (name b)) (set xs i y)
pairs_set Q name xs i y e inside same up a b d lt within =
    let there : b < length xs = omega (arith, within, length-set xs i y) in
    let known : name y ≡ name (get_or xs i d) = same ∙ ap name (get_or_default xs i e d inside) in
    rw (name_set name xs i y d known a, name_set name xs i y d known b) (up a b d lt there)

-- ---- keys

-- one more after the last
pub rising_push : {X : Type 0} (name : X → List ℕ) (xs : List X) (y : X) → Rising name xs
    → (0 < length xs → (d : X) → is_lt (folded_order (name y) (name (get_or xs (length xs - 1) d))) ≡ false)
    → Rising name (xs ++ y ∷ [])
rising_push name xs y up last = all_pairs_push (λ a b. is_lt (folded_order (name b) (name a)) ≡ false) xs y up below
  where
    below : (k : ℕ) (d : _) → k < length xs → is_lt (folded_order (name y) (name (get_or xs k d))) ≡ false
    below k d within =
        let some : 0 < length xs = omega (arith, within) in
        elim (cases_lt k (length xs - 1)) [
          | inl before ↦ folds.chain (name y) (name (get_or xs (length xs - 1) d)) (name (get_or xs k d)) (last some d)
              (up k (length xs - 1) d before (omega (arith, some)))
          | inr upto ↦ let same : k ≡ length xs - 1 = omega (arith, within, upto) in
              ap (λ (m : ℕ). is_lt (folded_order (name y) (name (get_or xs m d)))) same ∙ last some d
        ]

-- one more before the first that is greater
pub rising_insert : {X : Type 0} (name : X → List ℕ) (xs : List X) (y : X) → Rising name xs
    → Rising name (insert xs (position_or_len (λ x. is_gt (folded_order (name x) (name y))) xs) y)
rising_insert name xs y up =
    pairs_insert (λ a b. is_lt (folded_order (name b) (name a)) ≡ false) xs at y up
    (λ k d lt within. sym (greater_is_less (name (get_or xs k d)) (name y)) ∙ first.0 k d (omega arith) lt) behind
  where
    at : ℕ
    at = position_or_len (λ x. is_gt (folded_order (name x) (name y))) xs

    first : IsFirstMatchOrLen (λ x. is_gt (folded_order (name x) (name y))) xs at
    first = first_passes (λ x. is_gt (folded_order (name x) (name y))) xs

    behind : (k : ℕ) (d : _) → at ≤ k → k < length xs → is_lt (folded_order (name (get_or xs k d)) (name y)) ≡ false
    behind k d from within = elim (cases_lt at k) [
      | inl past ↦ greater_not_less (folded_order (name (get_or xs k d)) (name y))
          (greater_still (name (get_or xs at d)) (name (get_or xs k d)) (name y)
          (first.1 (omega (arith, past, within)) d) (up at k d past within))
      | inr upto ↦
          let same : k ≡ at = omega (arith, from, upto) in
          greater_not_less (folded_order (name (get_or xs k d)) (name y))
          (ap (λ (m : ℕ). is_gt (folded_order (name (get_or xs m d)) (name y))) same
          ∙ first.1 (omega (arith, same, within)) d)
    ]

-- among siblings a key stands before the first that is greater
pub placed_first : (t : Tree) (ts : List Tree)
    → placed t ts ≡ insert ts (position_or_len (folds_greater (head t).name) ts) t
placed_first t [] = refl
placed_first t (u ∷ us) = go (folds_greater (head t).name u) refl (placed_first t us)
  where
    p : Tree → Bool
    p = folds_greater (head t).name

    go : (b : Bool) → p u ≡ b → placed t us ≡ insert us (position_or_len p us) t
        → placed t (u ∷ us) ≡ insert (u ∷ us) (position_or_len p (u ∷ us)) t
    go true e h = rw (first_here p u us e, e) refl
    go false e h = rw (first_later p u us e, e, h) refl
