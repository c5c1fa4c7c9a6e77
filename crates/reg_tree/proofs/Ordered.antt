-- Values found by an order of their places, and what keeps it.
use Rattle.std.proofs.Common.{◌≡◌, ℕ, zero, suc, ◌+◌, ◌-◌, ◌≤◌, ◌<◌, ◌⊎◌, Bool, true, false, not, List, [], ◌∷◌, ◌++◌, length, get_or, Some, None, refl, sym, ap, subst, ◌∙◌, arith, inl, inr}
use Rattle.std.specs.Prelude.{◌==◌, map, position}
use Rattle.std.specs.List.{All, AllPairs, AllAdjacentBelow, Contains, filter, insert, remove, range_with_len}
use Rattle.std.specs.List.Sorted.{IsPermutation}
use Rattle.std.specs.Cmp.Lexicographic.{nat_list_cmp_total}
use Rattle.std.specs.Ordering.{is_eq, is_gt, is_lt}
use Rattle.std.specs.declared.cmp.Ordering.{Ordering}
use Rattle.std.specs.declared.cmp.Ordering.TheVariants.{Less, Equal, Greater}
use Rattle.std.proofs.Math.ListN.{set}
use Rattle.std.proofs.lemmas.Bool.{cases_Bool, cases_lt, both_ways, lt-ltb, le-ltb, eq-eqb, ne_eqb}
use Rattle.std.proofs.lemmas.List.{length-set, length-append, length-map, get_or-map, get_or_default}
use Rattle.std.proofs.lemmas.List.Edits.{length-insert, length-remove, get_or-insert_at, get_or-insert_below, get_or-insert_above, get_or-remove_below, get_or-remove_above}
use Rattle.std.proofs.lemmas.List.Elements.{All-filter, All-map, filter_passes}
use Rattle.std.proofs.lemmas.List.Kept.{AllPairs-filter}
use Rattle.std.proofs.lemmas.List.Sorted.{All-permutation, Contains-permutation}
use Rattle.std.proofs.lemmas.List.FromFn.{length-range_with_len, get_or-range_with_len}
use Rattle.nt_bytes.specs.Folding.{folded, folds_same, folded_order}
use Rattle.nt_names.proofs.FoldLemmas.{same_from_order, alike}
use Rattle.hive_model.specs.Tree.{Item, is_item}
use Rattle.reg_tree.specs.Order.{no_item, name_at, is_other, lowered, IsOrderOf}
use Rattle.reg_tree.proofs.Halving.{folds, greater_is_less, greater_left, Rising, EndsAt, less, none_pass, position_found, position_absent, pairs_insert}
use Rattle.reg_tree.proofs.Unlike.{Each, each_from, each_all}

-- ---- names at places

pub name_read : (items : List Item) (k : ℕ) (d : Item) → k < length items → name_at items k ≡ (get_or items k d).name
name_read items k d within = ap (λ (v : Item). v.name) (get_or_default items k no_item d within)

name_pushed : (items : List Item) (v : Item) (k : ℕ) → k < length items → name_at (items ++ v ∷ []) k ≡ name_at items k
name_pushed [] v k within = absurd (omega (arith, within))
name_pushed (x ∷ xs) v zero within = refl
name_pushed (x ∷ xs) v (suc k) within = name_pushed xs v k (omega (arith, within))

name_last : (items : List Item) (v : Item) → name_at (items ++ v ∷ []) (length items) ≡ v.name
name_last [] v = refl
name_last (x ∷ xs) v = name_last xs v

name_changed : (items : List Item) (i : ℕ) (v : Item) → v.name ≡ name_at items i → (k : ℕ)
    → name_at (set items i v) k ≡ name_at items k
name_changed [] i v same k = refl
name_changed (x ∷ xs) zero v same zero = same
name_changed (x ∷ xs) zero v same (suc k) = refl
name_changed (x ∷ xs) (suc i) v same zero = refl
name_changed (x ∷ xs) (suc i) v same (suc k) = name_changed xs i v same k

-- ---- names in order

pub is_less : (r : Ordering) → is_lt r ≡ true → r ≡ Less
is_less Less h = refl
is_less Equal h = absurd cc
is_less Greater h = absurd cc

equal_not_greater : (r : Ordering) → is_eq r ≡ true → is_gt r ≡ false
equal_not_greater Less h = refl
equal_not_greater Equal h = refl
equal_not_greater Greater h = sym h

less_chain : (a b c : List ℕ) → is_lt (folded_order a b) ≡ true → is_lt (folded_order b c) ≡ true
    → is_lt (folded_order a c) ≡ true
less_chain a b c h g = ap is_lt
    (nat_list_cmp_total.trans (folded a) (folded b) (folded c) (is_less (folded_order a b) h)
    (is_less (folded_order b c) g))

-- of two names that fold to one, none is less
alike_not_less : (q a b : List ℕ) → folds_same q a ≡ true → folds_same q b ≡ true → is_lt (folded_order a b) ≡ false
alike_not_less q a b h g =
    let same : is_eq (folded_order b a) ≡ true = sym (same_from_order a b) ∙ sym (alike q a h b) ∙ g in
    sym (greater_is_less b a) ∙ equal_not_greater (folded_order b a) same

abbrev pub Ascends : List Item → List ℕ → Type 0
Ascends items order = AllPairs (λ a b. is_lt (folded_order (name_at items a) (name_at items b)) ≡ true) order

-- neighbours in order are enough
pub ascends_from_neighbours : (items : List Item) (order : List ℕ)
    → AllAdjacentBelow (λ a b. is_lt (folded_order (name_at items a) (name_at items b)) ≡ true) order (length order)
    → Ascends items order
ascends_from_neighbours items order next i zero d lt within = absurd (omega (arith, lt))
ascends_from_neighbours items order next i (suc j) d lt within =
    let m : j + 1 ≡ suc j = omega arith in
    let step : is_lt (folded_order (name_at items (get_or order j d)) (name_at items (get_or order (suc j) d))) ≡ true =
    subst (λ (n : ℕ). is_lt (folded_order (name_at items (get_or order j d)) (name_at items (get_or order n d)))
    ≡ true) m (next j d (omega (arith, within))) in
    elim (cases_lt i j) [
      | inl before ↦ less_chain (name_at items (get_or order i d)) (name_at items (get_or order j d))
          (name_at items (get_or order (suc j) d))
          (ascends_from_neighbours items order next i j d before (omega (arith, within))) step
      | inr upto ↦ let same : i ≡ j = omega (arith, lt, upto) in rw same step
    ]

-- a sort of all places that ascends is an order
pub sorted_order : (items : List Item) (order : List ℕ) → IsPermutation (range_with_len 0 (length items)) order
    → Ascends items order → IsOrderOf items order
sorted_order items order moved up = record {
  inside = All-permutation (λ k. k < length items) all order moved below;
  each = λ k within. Contains-permutation all order k moved (
    k,
    omega (arith, within, length-range_with_len 0 (length items)),
    get_or-range_with_len 0 (length items) k k within ∙ omega arith,
  );
  rises = up;
}
  where
    all : List ℕ
    all = range_with_len 0 (length items)

    below : All (λ k. k < length items) all
    below k d lt =
        let small : k < length items = omega (arith, lt, length-range_with_len 0 (length items)) in
        rw (get_or-range_with_len 0 (length items) k d small) (omega (arith, small))

-- ---- searches

pub weak : (items : List Item) (order : List ℕ) → Ascends items order → Rising (name_at items) order
weak items order up i j d lt within =
    folds.one_way (name_at items (get_or order i d)) (name_at items (get_or order j d)) (up i j d lt within)

-- the value at a place of this name is the first
pub found_in_order : (items : List Item) (order q : List ℕ) (low k : ℕ) → IsOrderOf items order
    → (low < length order) × ((d : ℕ) → k ≡ get_or order low d) → folds_same q (name_at items k) ≡ true
    → position (is_item q) items ≡ Some k
found_in_order items order q low k o at same =
    position_found (is_item q) items k within
    (before, λ lt d. sym (ap (folds_same q) (name_read items k d within)) ∙ same)
  where
    within : k < length items
    within = subst (λ (j : ℕ). j < length items) (sym (at.1 k)) (o.inside low k at.0)

    before : (j : ℕ) (d : Item) → 0 ≤ j → j < k → is_item q (get_or items j d) ≡ false
    before j d from lt =
        let there : j < length items = omega (arith, lt, within) in
        let m = o.each j there in
        let mine = at.1 j in
        elim (cases_Bool (folds_same q (name_at items j))) [
          | inr other ↦ sym (ap (folds_same q) (name_read items j d there)) ∙ other
          | inl too ↦ elim (cases_lt m.0 low) [
            | inl left ↦
                let up : is_lt (folded_order (name_at items j) (name_at items k)) ≡ true =
                subst (λ (a : ℕ). is_lt (folded_order (name_at items a) (name_at items k)) ≡ true) m.2
                (subst (λ (b : ℕ). is_lt (folded_order (name_at items (get_or order m.0 j)) (name_at items b))
                ≡ true) (sym mine) (o.rises m.0 low j left at.0)) in
                absurd (both_ways (is_lt (folded_order (name_at items j) (name_at items k)))
                (alike_not_less q (name_at items j) (name_at items k) too same) up)
            | inr from ↦ elim (cases_lt low m.0) [
              | inl right ↦
                  let up : is_lt (folded_order (name_at items k) (name_at items j)) ≡ true =
                  subst (λ (a : ℕ). is_lt (folded_order (name_at items k) (name_at items a)) ≡ true) m.2
                  (subst (λ (b : ℕ). is_lt (folded_order (name_at items b) (name_at items (get_or order m.0 j)))
                  ≡ true) (sym mine) (o.rises low m.0 j right m.1)) in
                  absurd (both_ways (is_lt (folded_order (name_at items k) (name_at items j)))
                  (alike_not_less q (name_at items k) (name_at items j) same too) up)
              | inr upto ↦
                  let one : m.0 ≡ low = omega (arith, from, upto) in
                  let met : k ≡ j = mine ∙ ap (λ (n : ℕ). get_or order n j) (sym one) ∙ m.2 in
                  absurd (omega (arith, met, lt))
            ]
          ]
        ]

-- where no place has this name, no value has
pub absent_in_order : (items : List Item) (order q : List ℕ) → IsOrderOf items order
    → All (λ k. folds_same q (name_at items k) ≡ false) order → position (is_item q) items ≡ None
absent_in_order items order q o none = position_absent (is_item q) items (λ j d within.
    let m = o.each j within in
    sym (ap (folds_same q) (name_read items j d within))
    ∙ subst (λ (a : ℕ). folds_same q (name_at items a) ≡ false) m.2 (none m.0 j m.1))

-- no place has a name that no value has
pub none_in_order : (items : List Item) (order q : List ℕ) → IsOrderOf items order → position (is_item q) items ≡ None
    → All (λ k. folds_same q (name_at items k) ≡ false) order
none_in_order items order q o none k d within =
    let there = o.inside k d within in
    ap (folds_same q) (name_read items (get_or order k d) no_item there)
    ∙ none_pass (is_item q) items none (get_or order k d) no_item there

-- ---- changes

-- a value changed, but for its name
pub order_changed : (items : List Item) (order : List ℕ) (i : ℕ) (v : Item) → IsOrderOf items order
    → v.name ≡ name_at items i → IsOrderOf (set items i v) order
order_changed items order i v o same = record {
  inside = λ k d lt. omega (arith, o.inside k d lt, length-set items i v);
  each = λ k within. o.each k (omega (arith, within, length-set items i v));
  rises = λ a b d lt within.
      rw (name_changed items i v same (get_or order a d), name_changed items i v same (get_or order b d))
      (o.rises a b d lt within);
}

each_insert : (P : ℕ → Type 0) (xs : List ℕ) (i y : ℕ) → P y → Each P xs → Each P (insert xs i y)
each_insert P [] zero y own h = (own, tt)
each_insert P [] (suc i) y own h = (own, tt)
each_insert P (x ∷ xs) zero y own h = (own, h)
each_insert P (x ∷ xs) (suc i) y own h = (h.0, each_insert P xs i y own h.1)

-- one more value, whose name none has, with its place put where the search for it ended
pub order_pushed : (items : List Item) (order : List ℕ) (v : Item) (at : ℕ) → IsOrderOf items order → at ≤ length order
    → EndsAt (less (name_at items) v.name) order at
    → All (λ k. folds_same v.name (name_at items k) ≡ false) order
    → IsOrderOf (items ++ v ∷ []) (insert order at (length items))
order_pushed items order v at o most ends none = record {
  inside = each_all (λ k. k < length more) (insert order at new)
      (each_insert (λ k. k < length more) order at new (omega (arith, longer))
      (each_from (λ k. k < length more) order (λ k d lt. omega (arith, longer, o.inside k d lt))));
  each = each;
  rises =
      pairs_insert (λ a b. is_lt (folded_order (name_at more a) (name_at more b)) ≡ true) order at new
      (λ i j d lt within. rw (kept i d (omega (arith, lt, within)), kept j d within) (o.rises i j d lt within))
      before behind;
}
  where
    more : List Item
    more = items ++ v ∷ []

    new : ℕ
    new = length items

    longer : length more ≡ length items + 1
    longer = length-append items (v ∷ [])

    kept : (k d : ℕ) → k < length order → name_at more (get_or order k d) ≡ name_at items (get_or order k d)
    kept k d lt = name_pushed items v (get_or order k d) (o.inside k d lt)

    before : (k d : ℕ) → k < at → k < length order
        → is_lt (folded_order (name_at more (get_or order k d)) (name_at more new)) ≡ true
    before k d lt within = rw (kept k d within, name_last items v) (ends.0 k d (omega arith) lt)

    behind : (k d : ℕ) → at ≤ k → k < length order
        → is_lt (folded_order (name_at more new) (name_at more (get_or order k d))) ≡ true
    behind k d from within =
        let n = name_at items (get_or order k d) in
        let above : is_gt (folded_order n v.name) ≡ true =
        greater_left (folded_order n v.name) (ends.1 k d from within)
        (sym (same_from_order v.name n) ∙ none k d within) in
        rw (kept k d within, name_last items v) (sym (greater_is_less n v.name) ∙ above)

    each : (k : ℕ) → k < length more → Contains (insert order at new) k
    each k lt = elim (cases_lt k (length items)) [
      | inl old ↦
          let m = o.each k old in
          elim (cases_lt m.0 at) [
            | inl left ↦ (
              m.0,
              omega (arith, m.1, length-insert order at new most),
              get_or-insert_below order at new k m.0 left most ∙ m.2,
            )
            | inr right ↦ (
              m.0 + 1,
              omega (arith, m.1, length-insert order at new most),
              get_or-insert_above order at new k m.0 right most ∙ m.2,
            )
          ]
      | inr past ↦ (
        at,
        omega (arith, most, length-insert order at new most),
        get_or-insert_at order at new k most
            ∙ omega (arith, longer, lt, past),
      )
    ]

-- ---- a value that goes

below_kept : (at k : ℕ) → k < at → lowered at k ≡ k
below_kept at k lt = rw (le-ltb at k (omega (arith, lt))) refl

behind_lower : (at k : ℕ) → at < k → lowered at k ≡ k - 1
behind_lower at k lt = rw (lt-ltb at k lt) refl

-- at another place: before it, or after it
before_or_behind : (at k : ℕ) → is_other at k ≡ true → (k < at) ⊎ (at < k)
before_or_behind at k other = elim (cases_lt k at) [
  | inl lt ↦ inl lt
  | inr from ↦ elim (cases_lt at k) [
    | inl lt ↦ inr lt
    | inr upto ↦
        let same : k ≡ at = omega (arith, from, upto) in
        absurd (both_ways (k == at) (not_true (k == at) other) (eq-eqb k at same))
  ]
]
  where
    not_true : (b : Bool) → not b ≡ true → b ≡ false
    not_true true h = sym h
    not_true false h = refl

other_before : (at k : ℕ) → k < at → is_other at k ≡ true
other_before at k lt = rw (ne_eqb k at (λ e. omega (arith, lt, e))) refl

other_behind : (at k : ℕ) → at < k → is_other at k ≡ true
other_behind at k lt = rw (ne_eqb k at (λ e. omega (arith, lt, e))) refl

name_left : (items : List Item) (at k : ℕ) → at < length items → is_other at k ≡ true
    → name_at (remove items at) (lowered at k) ≡ name_at items k
name_left items at k within other = elim (before_or_behind at k other) [
  | inl before ↦ ap (name_at (remove items at)) (below_kept at k before)
      ∙ ap (λ (v : Item). v.name) (get_or-remove_below items at no_item k before within)
  | inr behind ↦
      let back : (k - 1) + 1 ≡ k = omega (arith, behind) in
      ap (name_at (remove items at)) (behind_lower at k behind)
      ∙ ap (λ (v : Item). v.name)
      (get_or-remove_above items at no_item (k - 1) (omega (arith, behind)) within
      ∙ ap (λ (n : ℕ). get_or items n no_item) back)
]

contains_filter : (p : ℕ → Bool) (xs : List ℕ) (x : ℕ) → Contains xs x → p x ≡ true → Contains (filter p xs) x
contains_filter p [] x (i, lt, here) pass = absurd (omega (arith, lt))
contains_filter p (y ∷ ys) x (zero, lt, here) pass = rw (ap p here ∙ pass) (zero, omega arith, here)
contains_filter p (y ∷ ys) x (suc i, lt, here) pass =
    let m = contains_filter p ys x (i, omega (arith, lt), here) pass in
    elim (cases_Bool (p y)) [
      | inl kept ↦ rw kept (suc m.0, omega (arith, m.1), m.2)
      | inr gone ↦ rw gone m
    ]

contains_map : (f : ℕ → ℕ) (xs : List ℕ) (x : ℕ) → Contains xs x → Contains (map f xs) (f x)
contains_map f xs x m = (m.0, omega (arith, m.1, length-map xs f), get_or-map f xs m.0 x (f x) m.1 ∙ ap f m.2)

-- the place of a value that goes is taken out, and those after it are one lower
pub order_removed : (items : List Item) (order : List ℕ) (at : ℕ) → IsOrderOf items order → at < length items
    → IsOrderOf (remove items at) (map (lowered at) (filter (is_other at) order))
order_removed items order at o within = record {
  inside = All-map (λ k. k < length less) (lowered at) left inside;
  each = each;
  rises = rises;
}
  where
    less : List Item
    less = remove items at

    left : List ℕ
    left = filter (is_other at) order

    shorter : length less + 1 ≡ length items
    shorter = length-remove items at within

    others : All (λ k. is_other at k ≡ true) left
    others = filter_passes (is_other at) order

    inside : All (λ k. lowered at k < length less) left
    inside i d lt =
        let k = get_or left i d in
        let there : k < length items = All-filter (is_other at) (λ n. n < length items) order o.inside i d lt in
        elim (before_or_behind at k (others i d lt)) [
          | inl before ↦ omega (arith, below_kept at k before, before, within, shorter)
          | inr behind ↦ omega (arith, behind_lower at k behind, behind, there, shorter)
        ]

    each : (k : ℕ) → k < length less → Contains (map (lowered at) left) k
    each k lt = elim (cases_lt k at) [
      | inl before ↦
          let m = contains_filter (is_other at) order k (o.each k (omega (arith, lt, shorter)))
          (other_before at k before) in
          subst (Contains (map (lowered at) left)) (below_kept at k before) (contains_map (lowered at) left k m)
      | inr from ↦
          let behind : at < k + 1 = omega (arith, from) in
          let m = contains_filter (is_other at) order (k + 1) (o.each (k + 1) (omega (arith, lt, shorter)))
          (other_behind at (k + 1) behind) in
          let down : lowered at (k + 1) ≡ k = behind_lower at (k + 1) behind ∙ omega arith in
          subst (Contains (map (lowered at) left)) down (contains_map (lowered at) left (k + 1) m)
    ]

    Less_at : ℕ → ℕ → Type 0
    Less_at a b = is_lt (folded_order (name_at items a) (name_at items b)) ≡ true

    rises : Ascends less (map (lowered at) left)
    rises i j d lt inside =
        let few : j < length left = omega (arith, inside, length-map left (lowered at)) in
        let first : i < length left = omega (arith, lt, few) in
        let a = name_left items at (get_or left i d) within (others i d first) in
        let b = name_left items at (get_or left j d) within (others j d few) in
        rw (get_or-map (lowered at) left i d d first, get_or-map (lowered at) left j d d few, a, b)
        (AllPairs-filter Less_at (is_other at) order o.rises i j d lt few)
