-- Places by the folded order of their names.
use Rattle.std.proofs.Common.{◌≡◌, ℕ, ◌-◌, ◌≤◌, take, drop, Bool, true, false, not, ◌&&◌, List, [], length, get_or, refl, sym, ap, ◌∙◌, arith, inl, inr}
use Rattle.std.specs.List.{filter, list_any, range_with_len}
use Rattle.std.specs.List.Sorted.{IsNonDecreasingBy, IsPartitionedBy, IsPartitionPoint, ties}
use Rattle.std.specs.Cmp.{IsStrictWeakOrder}
use Rattle.std.specs.Cmp.Lexicographic.{nat_list_cmp_total}
use Rattle.std.specs.Ordering.{ordering_index, ordering_reverse, is_eq, is_lt, is_le}
use Rattle.std.specs.declared.cmp.Ordering.{Ordering}
use Rattle.std.specs.declared.cmp.Ordering.TheVariants.{Less, Equal, Greater}
use Rattle.std.proofs.lemmas.Bool.{cases_Bool, cases_lt, both_ways}
use Rattle.std.proofs.lemmas.List.Elements.{filter_agree}
use Rattle.std.proofs.lemmas.List.Folds.{Any-from_list_any}
use Rattle.std.proofs.lemmas.List.Sorted.{ranks_by, searchable_from_sorted, list_any-IsPermutation}
use Rattle.nt_bytes.specs.Folding.{folded, folds_same, folded_order}
use Rattle.nt_names.specs.name_places.Places.{places_named}
use Rattle.nt_names.specs.name_places.Order.{IsOrderOf, comes_before}
use Rattle.nt_names.proofs.FoldLemmas.{same_from_order, alike}
use Rattle.nt_names.proofs.FilterLemmas.{filter_none, filter_part}

neither_less : (r : Ordering) → (not (is_lt (ordering_reverse r)) && not (is_lt r)) ≡ is_eq r
neither_less Less = refl
neither_less Equal = refl
neither_less Greater = refl

same_from_ties : (q y : List ℕ) → folds_same q y ≡ (not (is_lt (folded_order q y)) && not (is_lt (folded_order y q)))
same_from_ties q y = same_from_order q y
    ∙ sym (ap (λ r. not (is_lt r) && not (is_lt (folded_order y q))) (nat_list_cmp_total.antisymm (folded q) (folded y))
    ∙ neither_less (folded_order y q))

-- ---- places in their order

pub is_order : (names : List (List ℕ)) → IsStrictWeakOrder (comes_before names)
is_order names = ranks_by nat_list_cmp_total (λ (k : ℕ). folded (get_or names k []))

-- the places of a name are in the order that they have in the list
pub kept : (names : List (List ℕ)) (order : List ℕ) (name : List ℕ) → IsOrderOf names order
    → filter (λ k. folds_same name (get_or names k [])) order ≡ places_named name names
kept names order name o =
    elim (cases_Bool (list_any test all)) [
      | inl some ↦
          let found = Any-from_list_any test all some in
          let tied : (k : ℕ) → test k ≡ ties (comes_before names) found.1 k =
          λ k. alike name (get_or names found.1 []) found.4 (get_or names k [])
          ∙ same_from_ties (get_or names found.1 []) (get_or names k []) in
          filter_agree test (ties (comes_before names) found.1) tied order ∙ o.by_place found.1
          ∙ sym (filter_agree test (ties (comes_before names) found.1) tied all)
      | inr none ↦ filter_none test order (sym (list_any-IsPermutation test all order o.each_once) ∙ none)
          ∙ sym (filter_none test all none)
    ]
  where
    all : List ℕ
    all = range_with_len 0 (length names)

    test : ℕ → Bool
    test k = folds_same name (get_or names k [])

-- ---- a search

lower_less : (r s : Ordering) → ordering_index r ≤ ordering_index s → is_lt s ≡ true → is_lt r ≡ true
lower_less Less s h e = refl
lower_less Equal Less h e = absurd (omega (arith, h))
lower_less Equal Equal h e = e
lower_less Equal Greater h e = e
lower_less Greater Less h e = absurd (omega (arith, h))
lower_less Greater Equal h e = e
lower_less Greater Greater h e = e

lower_le : (r s : Ordering) → ordering_index r ≤ ordering_index s → is_le s ≡ true → is_le r ≡ true
lower_le Less s h e = refl
lower_le Equal s h e = refl
lower_le Greater Less h e = absurd (omega (arith, h))
lower_le Greater Equal h e = absurd (omega (arith, h))
lower_le Greater Greater h e = e

less_le : (r : Ordering) → is_lt r ≡ true → is_le r ≡ true
less_le Less h = refl
less_le Equal h = refl
less_le Greater h = h

pub less_differs : (r : Ordering) → is_lt r ≡ true → is_eq r ≡ false
less_differs Less h = refl
less_differs Equal h = sym h
less_differs Greater h = refl

greater_differs : (r : Ordering) → is_le r ≡ false → is_eq r ≡ false
greater_differs Less h = refl
greater_differs Equal h = h
greater_differs Greater h = refl

between_is_equal : (r : Ordering) → is_lt r ≡ false → is_le r ≡ true → is_eq r ≡ true
between_is_equal Less h e = sym h
between_is_equal Equal h e = refl
between_is_equal Greater h e = e

-- how the name at a place stands to this one
abbrev pub compared : List (List ℕ) → List ℕ → ℕ → Ordering
compared names name k = folded_order (get_or names k []) name

rises : (names : List (List ℕ)) (order : List ℕ) (name : List ℕ) → IsOrderOf names order
    → IsNonDecreasingBy (λ k. ordering_index (compared names name k)) order
rises names order name o =
    searchable_from_sorted nat_list_cmp_total (λ (k : ℕ). folded (get_or names k [])) order (folded name) o.by_name

less_first : (names : List (List ℕ)) (order : List ℕ) (name : List ℕ) → IsOrderOf names order
    → IsPartitionedBy (λ k. is_lt (compared names name k)) order
less_first names order name o i j d upto lt =
    lower_less (compared names name (get_or order i d)) (compared names name (get_or order j d))
    (rises names order name o i j d upto lt)

le_first : (names : List (List ℕ)) (order : List ℕ) (name : List ℕ) → IsOrderOf names order
    → IsPartitionedBy (λ k. is_le (compared names name k)) order
le_first names order name o i j d upto lt =
    lower_le (compared names name (get_or order i d)) (compared names name (get_or order j d))
    (rises names order name o i j d upto lt)

-- where a search for the places that pass a test ends
abbrev pub EndsAt : (ℕ → Bool) → List ℕ → ℕ → Type 0
EndsAt p order n = IsPartitionPoint (λ k. p k ≡ true) (λ k. p k ≡ false) order n

-- the part from low up to high holds the places of the name
pub record IsPart (names : List (List ℕ)) (order name : List ℕ) (low high : ℕ) : Type 0 where
  pub rises : low ≤ high
  pub named : take (high - low) (drop low order) ≡ places_named name names

module _ (names : List (List ℕ)) (order name : List ℕ) (low high : ℕ) (least : low ≤ length order)
    (most : high ≤ length order) (less : EndsAt (λ k. is_lt (compared names name k)) order low)
    (le : EndsAt (λ k. is_le (compared names name k)) order high) where
  abbrev at : ℕ → ℕ → Ordering
  at k d = compared names name (get_or order k d)

  low_first : low ≤ high
  low_first = elim (cases_lt high low) [
    | inl past ↦ absurd (both_ways (is_le (at high 0)) (le.1 high 0 (omega arith) (omega (arith, past, least)))
        (less_le (at high 0) (less.0 high 0 (omega arith) past)))
    | inr upto ↦ upto
  ]

  same : (k d : ℕ) → folds_same name (get_or names (get_or order k d) []) ≡ is_eq (at k d)
  same k d = same_from_order name (get_or names (get_or order k d) [])

  between : IsOrderOf names order → IsPart names order name low high
  between o = record {
    rises = low_first;
    named =
        filter_part (λ k. folds_same name (get_or names k [])) order low (high - low) (omega (arith, low_first, most))
        (λ k d from to. same k d ∙ less_differs (at k d) (less.0 k d from to))
        (λ k d from to. same k d ∙ between_is_equal (at k d) (less.1 k d from (omega (arith, low_first, to, most)))
        (le.0 k d (omega arith) (omega (arith, low_first, to))))
        (λ k d from to. same k d ∙ greater_differs (at k d) (le.1 k d (omega (arith, low_first, from)) to))
        ∙ kept names order name o;
  }

-- by what two searches say: low is the first place that is not less, and high the first that is greater
pub searched : (names : List (List ℕ)) (order name : List ℕ) (low high : ℕ) → IsOrderOf names order → low ≤ length order
    → high ≤ length order
    → (IsPartitionedBy (λ k. is_lt (compared names name k)) order
    → EndsAt (λ k. is_lt (compared names name k)) order low)
    → (IsPartitionedBy (λ k. is_le (compared names name k)) order
    → EndsAt (λ k. is_le (compared names name k)) order high) → IsPart names order name low high
searched names order name low high o least most less le =
    between names order name low high least most (less (less_first names order name o))
    (le (le_first names order name o)) o
