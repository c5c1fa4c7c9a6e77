-- Lacks are the needs that were not met, each folded name once.
use Rattle.std.proofs.Common.{◌≡◌, ◌<◌, ◌≤◌, ℕ, zero, suc, ◌+◌, nat_eq, nat_lt, Bool, true, false, not, ◌&&◌, cond, List, [], ◌∷◌, length, get_or, slice_get, Option, Some, None, refl, sym, ap, subst, ◌∙◌, arith}
use Rattle.std.specs.Prelude.{Contains, AllPairs, position, option_and_then}
use Rattle.std.specs.List.{All, position_or_len, filter_map, range_with_len, cons_option}
use Rattle.std.specs.Option.{option_map_or}
use Rattle.std.proofs.lemmas.Bool.{false≢true, and_parts, eqb-true, eq-eqb}
use Rattle.std.proofs.lemmas.Bool.Decides.{nat_tests}
use Rattle.std.proofs.lemmas.List.Sums.{fails_before_first}
use Rattle.std.proofs.lemmas.Option.{same_Some, slice_get-get_or}
use Rattle.std.proofs.lemmas.List.Elements.{All-cons, All-nil}
use Rattle.std.proofs.lemmas.List.Kept.{AllPairs-cons}
use Rattle.std.proofs.lemmas.List.Quantifiers.{position-Some}
use Rattle.nt_bytes.specs.Folding.{folded, folded_unit, folds_same}
use Rattle.dependencies.proofs.MeetLemmas.{folded_first}
use Rattle.quiet_run.specs.declared.last.Attempt.{Attempt}
use Rattle.why_needs.specs.why_state.States.{place_in}
use Rattle.why_needs.specs.why_needs.Lacking.{is_first, lacking_at, lacking}
use Rattle.why_needs.specs.why_needs.Met.{is_ok, service_met, group_met, is_met}
use Rattle.why_laws.specs.why_laws.Lacks.{AreLacks, LacksAreUnmetNeeds}

-- ---- members

first_in : (m : List ℕ) (ms : List (List ℕ)) → Contains (m ∷ ms) m
first_in m ms = (zero, omega arith, refl)

later_in : (x : List ℕ) (xs : List (List ℕ)) (m : List ℕ) → Contains xs m → Contains (x ∷ xs) m
later_in x xs m (k, lt, e) = (suc k, omega (arith, lt), e)

-- ---- names that fold to one

one_folded : (a b : List ℕ) → folds_same a b ≡ true → folded a ≡ folded b
one_folded [] [] h = refl
one_folded [] (y ∷ ys) h = absurd (false≢true h)
one_folded (x ∷ xs) [] h = absurd (false≢true h)
one_folded (x ∷ xs) (y ∷ ys) h =
    let both = and_parts (nat_eq (folded_unit x) (folded_unit y)) (folds_same xs ys) h in
    let unit = eqb-true (folded_unit x) (folded_unit y) both.0 in
    let rest = one_folded xs ys both.1 in
    λ i. unit i ∷ rest i

same_first : (a b c : List ℕ) → folds_same a b ≡ true → folds_same a c ≡ folds_same b c
same_first a b c h = sym (folded_first a c) ∙ ap (λ (n : List ℕ). folds_same n c) (one_folded a b h) ∙ folded_first b c

folds_self : (a : List ℕ) → folds_same a a ≡ true
folds_self [] = refl
folds_self (x ∷ xs) = (λ i. eq-eqb (folded_unit x) (folded_unit x) refl i && folds_same xs xs) ∙ folds_self xs

place_same : (names : List (List ℕ)) (a b : List ℕ) → folds_same a b ≡ true → place_in names a ≡ place_in names b
place_same names a b h = λ i. position (λ (c : List ℕ). same_first a b c h i) names

-- ---- the lack at a place

module _ (met : List ℕ → Bool) (alike : (a b : List ℕ) → folds_same a b ≡ true → met a ≡ met b) (names : List (List ℕ)) where
  record IsLack (k : ℕ) (m : List ℕ) : Type 0 where
    here : slice_get names k ≡ Some m
    first : place_in names m ≡ Some k
    unmet : met m ≡ false

  is_place : (o : Option ℕ) (k : ℕ) → option_map_or (nat_eq k) o false ≡ true → o ≡ Some k
  is_place None k h = absurd (false≢true h)
  is_place (Some j) k h = ap (λ (x : ℕ). Some x) (sym (eqb-true k j h))

  negated : (b : Bool) → not b ≡ true → b ≡ false
  negated true h = absurd (false≢true h)
  negated false h = refl

  lack_at : (k : ℕ) (m : List ℕ) → lacking_at met names k ≡ Some m → IsLack k m
  lack_at k m is = by (slice_get names k) refl is
    where
      tested : (name : List ℕ) (b : Bool) → slice_get names k ≡ Some name → (is_first names k name && not (met name)) ≡ b
          → cond b (Some name) None ≡ Some m → IsLack k m
      tested name false at t h = absurd cc
      tested name true at t h =
          let parts = and_parts (is_first names k name) (not (met name)) t in
          let same : name ≡ m = same_Some name m h in
          let P : List ℕ → Type 0 = IsLack k in
          subst P same (record { here = at; first = is_place (place_in names name) k parts.0; unmet = negated (met name) parts.1 })

      by : (o : Option (List ℕ)) → slice_get names k ≡ o
          → option_and_then (λ name. cond (is_first names k name && not (met name)) (Some name) None) o ≡ Some m → IsLack k m
      by None at h = absurd cc
      by (Some name) at h = tested name (is_first names k name && not (met name)) at refl h

  at_lack : (k : ℕ) (m : List ℕ) → IsLack k m → lacking_at met names k ≡ Some m
  at_lack k m l =
      ap (option_and_then (λ name. cond (is_first names k name && not (met name)) (Some name) None)) l.here
      ∙ ap (λ (o : Option ℕ). cond (option_map_or (nat_eq k) o false && not (met m)) (Some m) None) l.first
      ∙ (λ i. cond (eq-eqb k k refl i && not (l.unmet i)) (Some m) None)

  -- ---- the lacks from a place on

  abbrev from : ℕ → ℕ → List (List ℕ)
  from k n = filter_map (lacking_at met names) (range_with_len k n)

  has_more : (o : Option (List ℕ)) (xs : List (List ℕ)) (m : List ℕ) → Contains xs m → Contains (cons_option o xs) m
  has_more None xs m c = c
  has_more (Some x) xs m c = later_in x xs m c

  -- a lack at one of these places is one of them
  has : (n k j : ℕ) (m : List ℕ) → k ≤ j → j < k + n → lacking_at met names j ≡ Some m → Contains (from k n) m
  has zero k j m least most is = absurd (omega (arith, least, most))
  has (suc n) k j m least most is = by (nat_eq k j) refl (λ least most. has n (k + 1) j m least most is)
    where
      by : (b : Bool) → nat_eq k j ≡ b → (k + 1 ≤ j → j < k + 1 + n → Contains (from (k + 1) n) m)
          → Contains (cons_option (lacking_at met names k) (from (k + 1) n)) m
      by true same deep =
          let at : lacking_at met names k ≡ Some m = ap (lacking_at met names) (eqb-true k j same) ∙ is in
          let P : Option (List ℕ) → Type 0 = λ (o : Option (List ℕ)). Contains (cons_option o (from (k + 1) n)) m in
          subst P (sym at) (first_in m (from (k + 1) n))
      by false other deep =
          has_more (lacking_at met names k) (from (k + 1) n) m (deep (grind (arith, nat_tests, least, other)) (omega (arith, most)))

  -- each of them is a lack at one of these places
  abbrev FromOn : ℕ → List ℕ → Type 0
  FromOn k m = (j : ℕ) × (k ≤ j) × IsLack j m

  all_from : (n k j : ℕ) → j ≤ k → All (FromOn j) (from k n)
  all_from zero k j le = All-nil (FromOn j)
  all_from (suc n) k j le = by (lacking_at met names k) refl (all_from n (k + 1) j (omega (arith, le)))
    where
      by : (o : Option (List ℕ)) → lacking_at met names k ≡ o → All (FromOn j) (from (k + 1) n) → All (FromOn j) (cons_option o (from (k + 1) n))
      by None is deep = deep
      by (Some m) is deep = All-cons (FromOn j) m (from (k + 1) n) (k, le, lack_at k m is) deep

  -- a lack folds unlike each later one
  unlike_later : (k : ℕ) (m : List ℕ) → IsLack k m → (x : List ℕ) → FromOn (k + 1) x → folds_same m x ≡ false
  unlike_later k m l x (j, le, y) = by (folds_same m x) refl
    where
      by : (b : Bool) → folds_same m x ≡ b → b ≡ false
      by false is = refl
      by true is =
          let same : k ≡ j = same_Some k j (sym l.first ∙ place_same names m x is ∙ y.first) in
          absurd (omega (arith, le, same))

  apart : (n k : ℕ) → AllPairs (λ (a b : List ℕ). folds_same a b ≡ false) (from k n)
  apart zero k = λ i j d lt within. absurd (omega (arith, within))
  apart (suc n) k = by (lacking_at met names k) refl (apart n (k + 1))
    where
      by : (o : Option (List ℕ)) → lacking_at met names k ≡ o → AllPairs (λ (a b : List ℕ). folds_same a b ≡ false) (from (k + 1) n)
          → AllPairs (λ (a b : List ℕ). folds_same a b ≡ false) (cons_option o (from (k + 1) n))
      by None is deep = deep
      by (Some m) is deep =
          AllPairs-cons (λ (a b : List ℕ). folds_same a b ≡ false) m (from (k + 1) n)
          (λ q d lt. unlike_later k m (lack_at k m is) (get_or (from (k + 1) n) q d) (all_from n (k + 1) (k + 1) (omega arith) q d lt)) deep

  -- ---- all of them

  at_place : (xs : List (List ℕ)) (k : ℕ) (m : List ℕ) → slice_get xs k ≡ Some m → Contains xs m
  at_place [] k m is = absurd cc
  at_place (x ∷ xs) zero m is =
      let P : List ℕ → Type 0 = Contains (x ∷ xs) in subst P (same_Some x m is) (first_in x xs)
  at_place (x ∷ xs) (suc k) m is = later_in x xs m (at_place xs k m is)

  within : (m : List ℕ) → Contains names m → position_or_len (folds_same m) names < length names
  within m (k, lt, at) = by (nat_lt (position_or_len (folds_same m) names) (length names)) refl
    where
      by : (b : Bool) → nat_lt (position_or_len (folds_same m) names) (length names) ≡ b → position_or_len (folds_same m) names < length names
      by true is = grind (arith, nat_tests, is)
      by false is =
          let none = fails_before_first (folds_same m) names k m (grind (arith, nat_tests, is, lt)) in
          absurd (false≢true (sym none ∙ ap (folds_same m) at ∙ folds_self m))

  first_at : (m : List ℕ) → Contains names m → place_in names m ≡ Some (position_or_len (folds_same m) names)
  first_at m c =
      let k : ℕ = position_or_len (folds_same m) names in
      let lt : k < length names = within m c in
      let test : nat_lt k (length names) ≡ true = grind (arith, nat_tests, lt) in
      ap (λ (b : Bool). cond b (Some k) None) test

  lack_of : (m : List ℕ) → Contains names m → met m ≡ false
      → (lack : List ℕ) × Contains (lacking met names) lack × (folds_same m lack ≡ true)
  lack_of m c off =
      let k : ℕ = position_or_len (folds_same m) names in
      let lt : k < length names = within m c in
      let at : place_in names m ≡ Some k = first_at m c in
      let lack : List ℕ = get_or names k m in
      let same : folds_same m lack ≡ true = (position-Some (folds_same m) names k m at).1 in
      let l : IsLack k lack = record {
        here = slice_get-get_or names k m lt;
        first = sym (place_same names m lack same) ∙ at;
        unmet = sym (alike m lack same) ∙ off;
      } in
      (lack, has (length names) 0 k lack (omega arith) (omega (arith, lt)) (at_lack k lack l), same)

  lacks_are : AreLacks met names (lacking met names)
  lacks_are = record {
    unmet = λ name c.
        let P : List ℕ → Type 0 = FromOn 0 in
        let l = subst P c.2 (all_from (length names) 0 0 (omega arith) c.0 name c.1) in
        (at_place names l.0 name l.2.here, l.2.unmet);
    all = lack_of;
    once = apart (length names) 0;
  }

pub lacks_are_unmet_needs : LacksAreUnmetNeeds
lacks_are_unmet_needs n v e = (
  lacks_are (λ name. is_met v.end (service_met n.run name))
      (λ a b h. ap (λ (o : Option ℕ). is_met v.end (option_and_then (λ k. option_and_then (λ (t : Attempt). cond (is_ok t.outcome) (Some k) None)
      (slice_get n.run.run.start.attempts k)) o)) (place_same n.run.tried a b h)) e.services,
  lacks_are (λ group. is_met v.end (group_met n.starts group))
      (λ a b h. ap (λ (o : Option ℕ). is_met v.end (option_and_then (slice_get n.starts.at) o)) (place_same n.starts.groups a b h)) e.groups,
)
