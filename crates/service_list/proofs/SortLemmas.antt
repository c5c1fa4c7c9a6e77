-- What a stable sort leaves is what putting each in its place leaves.
use Rattle.std.proofs.Common.{◌≡◌, ℕ, zero, suc, ◌+◌, ◌<◌, Bool, true, false, not, cond, List, [], ◌∷◌, length, get_or, refl, sym, ap, ◌∙◌, subst, arith}
use Rattle.std.specs.List.{filter, AllByRecursion}
use Rattle.std.specs.List.Sorted.{IsPermutation, IsSortedBy, IsStableBy, ties}
use Rattle.std.specs.Cmp.{IsStrictWeakOrder}
use Rattle.std.specs.Cmp.Lexicographic.{nat_list_cmp_total}
use Rattle.std.specs.Ordering.{nat_cmp, is_lt}
use Rattle.std.proofs.lemmas.Bool.{false≢true, true≢false, not-true, not_from_false, and_parts, and_from}
use Rattle.std.proofs.lemmas.Cmp.{nat_cmp_total}
use Rattle.std.proofs.lemmas.List.Sorted.{ranks_by, sorted_far, IsStrictWeakOrder-flip, IsPermutation-refl, IsPermutation-sym, IsPermutation-trans, IsPermutation-cons, IsPermutation-middle}
use Rattle.nt_bytes.specs.Folding.{folded}
use Rattle.service_list.specs.declared.entry.ServiceEntry.{ServiceEntry}
use Rattle.service_list.specs.declared.kinds.SortBy.{SortBy}
use Rattle.service_list.specs.declared.kinds.SortBy.TheVariants.{Name, Written, Order}
use Rattle.service_list.specs.Sorting.{put_by, sorted_by, is_named_before, is_newer, is_earlier, comes_before}

module _ {X : Type 0} (lt : X → X → Bool) (o : IsStrictWeakOrder lt) where
  -- no element is before one that stands ahead of it
  abbrev InOrder : List X → Type 0
  InOrder [] = Unit {0}
  InOrder (x ∷ xs) = AllByRecursion (λ y. lt y x ≡ false) xs × InOrder xs

  far : (x : X) (xs : List X) → ((k : ℕ) (d : X) → k < length xs → lt (get_or xs k d) x ≡ false)
      → AllByRecursion (λ y. lt y x ≡ false) xs
  far x [] h = tt
  far x (y ∷ ys) h = (h 0 x (omega arith), far x ys (λ k d less. h (suc k) d (omega arith)))

  in_order_from_sorted : (xs : List X) → IsSortedBy lt xs → InOrder xs
  in_order_from_sorted [] h = tt
  in_order_from_sorted (x ∷ xs) h = (
    far x xs (λ k d less. sorted_far lt o (x ∷ xs) h 0 (suc k) d (omega arith) (omega arith)),
    in_order_from_sorted xs (λ k d low high.
        (let e : suc k + 1 ≡ suc (k + 1) = omega arith in
        let P : ℕ → Type 0 = λ m. lt (get_or (x ∷ xs) m d) (get_or xs k d) ≡ false in
        subst P e (h (suc k) d (omega arith) (omega arith)))),
  )

  -- ---- what is put in its place is in order

  all_put : (r s : X) (rs : List X) → lt s r ≡ false → AllByRecursion (λ t. lt t r ≡ false) rs
      → AllByRecursion (λ t. lt t r ≡ false) (put_by lt s rs)
  all_put r s [] h hs = (h, tt)
  all_put r s (t ∷ rs) h hs = by_case (lt t s) (all_put r s rs h hs.1)
    where
      by_case : (b : Bool) → AllByRecursion (λ t. lt t r ≡ false) (put_by lt s rs)
          → AllByRecursion (λ t. lt t r ≡ false) (cond b (t ∷ put_by lt s rs) (s ∷ t ∷ rs))
      by_case true deep = (hs.0, deep)
      by_case false deep = (h, hs)

  weaker : (r s : X) (rs : List X) → lt s r ≡ false → AllByRecursion (λ t. lt t s ≡ false) rs
      → AllByRecursion (λ t. lt t r ≡ false) rs
  weaker r s [] h hs = tt
  weaker r s (t ∷ rs) h hs = (o.chain t s r hs.0 h, weaker r s rs h hs.1)

  in_order_put : (x : X) (ys : List X) → InOrder ys → InOrder (put_by lt x ys)
  in_order_put x [] h = (tt, tt)
  in_order_put x (y ∷ ys) h = by_case (lt y x) refl (in_order_put x ys h.1)
    where
      by_case : (b : Bool) → lt y x ≡ b → InOrder (put_by lt x ys) → InOrder (cond b (y ∷ put_by lt x ys) (x ∷ y ∷ ys))
      by_case true e deep = (all_put y x ys (o.one_way y x e) h.0, deep)
      by_case false e deep = ((e, weaker x y ys e h.0), h)

  in_order_sorted : (xs : List X) → InOrder (sorted_by lt xs)
  in_order_sorted [] = tt
  in_order_sorted (x ∷ xs) = in_order_put x (sorted_by lt xs) (in_order_sorted xs)

  -- ---- and those that tie stay as they were

  both_tie : (z x y : X) → ties lt z x ≡ true → ties lt z y ≡ true → lt y x ≡ false
  both_tie z x y tx ty =
      let right = and_parts (not (lt z x)) (not (lt x z)) tx in
      let left = and_parts (not (lt z y)) (not (lt y z)) ty in
      o.chain y z x (not-true (lt y z) left.1) (not-true (lt z x) right.0)

  swapped : (x y : X) (f : List X) (p q : Bool) → (p ≡ true → q ≡ true → ⊥)
      → cond p (y ∷ cond q (x ∷ f) f) (cond q (x ∷ f) f) ≡ cond q (x ∷ cond p (y ∷ f) f) (cond p (y ∷ f) f)
  swapped x y f true true never = absurd (never refl refl)
  swapped x y f true false never = refl
  swapped x y f false true never = refl
  swapped x y f false false never = refl

  filter_put : (z x : X) (ys : List X) → filter (ties lt z) (put_by lt x ys) ≡ filter (ties lt z) (x ∷ ys)
  filter_put z x [] = refl
  filter_put z x (y ∷ ys) = by_case (lt y x) refl (filter_put z x ys)
    where
      by_case : (b : Bool) → lt y x ≡ b → filter (ties lt z) (put_by lt x ys) ≡ filter (ties lt z) (x ∷ ys)
          → filter (ties lt z) (cond b (y ∷ put_by lt x ys) (x ∷ y ∷ ys)) ≡ filter (ties lt z) (x ∷ y ∷ ys)
      by_case true e deep =
          ap (λ (l : List X). cond (ties lt z y) (y ∷ l) l) deep
          ∙ swapped x y (filter (ties lt z) ys) (ties lt z y) (ties lt z x)
          (λ ty tx. false≢true (sym (both_tie z x y tx ty) ∙ e))
      by_case false e deep = refl

  filter_sorted : (z : X) (xs : List X) → filter (ties lt z) (sorted_by lt xs) ≡ filter (ties lt z) xs
  filter_sorted z [] = refl
  filter_sorted z (x ∷ xs) =
      filter_put z x (sorted_by lt xs) ∙ ap (λ (l : List X). cond (ties lt z x) (x ∷ l) l) (filter_sorted z xs)

  -- ---- there is one such list

  abbrev first_or : X → List X → X
  first_or d [] = d
  first_or d (x ∷ xs) = x

  abbrev rest_of : List X → List X
  rest_of [] = []
  rest_of (x ∷ xs) = xs

  itself : (x : X) → lt x x ≡ false
  itself x = by_case (lt x x) refl
    where
      by_case : (b : Bool) → lt x x ≡ b → lt x x ≡ false
      by_case true e = o.one_way x x e
      by_case false e = e

  tie_from : (x y : X) → lt x y ≡ false → lt y x ≡ false → ties lt x y ≡ true
  tie_from x y g h = and_from (not (lt x y)) (not (lt y x)) (not_from_false (lt x y) g) (not_from_false (lt y x) h)

  -- an element that a filter keeps first
  kept_first : (p : X → Bool) (Q : X → Type 0) (xs : List X) (y : X) (more : List X) → filter p xs ≡ y ∷ more
      → AllByRecursion Q xs → Q y
  kept_first p Q [] y more e all = absurd (omega (arith, ap length e))
  kept_first p Q (x ∷ xs) y more e all = by_case (p x) e (λ f. kept_first p Q xs y more f all.1)
    where
      by_case : (b : Bool) → cond b (x ∷ filter p xs) (filter p xs) ≡ y ∷ more → (filter p xs ≡ y ∷ more → Q y) → Q y
      by_case true is deep = subst Q (ap (first_or x) is) all.0
      by_case false is deep = deep is

  its_own : (x : X) (xs : List X) → filter (ties lt x) (x ∷ xs) ≡ x ∷ filter (ties lt x) xs
  its_own x xs = ap (λ b. cond b (x ∷ filter (ties lt x) xs) (filter (ties lt x) xs)) (tie_from x x (itself x) (itself x))

  -- what is first in the one list is not before what is first in the other
  not_before : (x y : X) (xs ys : List X) → AllByRecursion (λ t. lt t x ≡ false) xs
      → filter (ties lt y) (x ∷ xs) ≡ filter (ties lt y) (y ∷ ys) → lt y x ≡ false
  not_before x y xs ys all same = by_case (ties lt y x) refl
    where
      by_case : (b : Bool) → ties lt y x ≡ b → lt y x ≡ false
      by_case true e = not-true (lt y x) (and_parts (not (lt y x)) (not (lt x y)) e).0
      by_case false e =
          kept_first (ties lt y) (λ t. lt t x ≡ false) xs y (filter (ties lt y) ys)
          (ap (λ b. cond b (x ∷ filter (ties lt y) xs) (filter (ties lt y) xs)) (sym e) ∙ same ∙ its_own y ys) all

  rest_same : (x y : X) (f g : List X) (b c : Bool) → b ≡ c → cond b (x ∷ f) f ≡ cond c (y ∷ g) g → f ≡ g
  rest_same x y f g true true e same = ap rest_of same
  rest_same x y f g true false e same = absurd (true≢false e)
  rest_same x y f g false true e same = absurd (false≢true e)
  rest_same x y f g false false e same = same

  in_order_unique : (xs ys : List X) → InOrder xs → InOrder ys
      → ((z : X) → filter (ties lt z) xs ≡ filter (ties lt z) ys) → xs ≡ ys
  in_order_unique [] [] g h same = refl
  in_order_unique [] (y ∷ ys) g h same = absurd (omega (arith, ap length (same y ∙ its_own y ys)))
  in_order_unique (x ∷ xs) [] g h same = absurd (omega (arith, ap length (sym (same x) ∙ its_own x xs)))
  in_order_unique (x ∷ xs) (y ∷ ys) g h same =
      let tie : ties lt x y ≡ true =
      tie_from x y (not_before y x ys xs h.0 (sym (same x))) (not_before x y xs ys g.0 (same y)) in
      let heads : x ∷ filter (ties lt x) xs ≡ y ∷ filter (ties lt x) ys =
      sym (its_own x xs) ∙ same x ∙ ap (λ b. cond b (y ∷ filter (ties lt x) ys) (filter (ties lt x) ys)) tie in
      let first : x ≡ y = ap (first_or x) heads in
      let rest : xs ≡ ys = in_order_unique xs ys g.1 h.1 (λ z.
      rest_same x y (filter (ties lt z) xs) (filter (ties lt z) ys) (ties lt z x) (ties lt z y)
      (ap (ties lt z) first) (same z)) in
      λ j. first j ∷ rest j

  pub sorted_is : (xs ys : List X) → IsSortedBy lt ys → IsStableBy lt xs ys → ys ≡ sorted_by lt xs
  sorted_is xs ys up stable =
      in_order_unique ys (sorted_by lt xs) (in_order_from_sorted ys up) (in_order_sorted xs)
      (λ z. stable z ∙ sym (filter_sorted z xs))

  -- ---- what that list is

  order_at : (xs : List X) → InOrder xs → (k : ℕ) (d : X) → k + 1 < length xs → lt (get_or xs (k + 1) d) (get_or xs k d) ≡ false
  order_at [] h k d less = absurd (omega (arith, less))
  order_at (x ∷ []) h k d less = absurd (omega (arith, less))
  order_at (x ∷ y ∷ ys) h zero d less = h.0.0
  order_at (x ∷ y ∷ ys) h (suc k) d less =
      let e : suc (k + 1) ≡ suc k + 1 = omega arith in
      let P : ℕ → Type 0 = λ m. lt (get_or (x ∷ y ∷ ys) m d) (get_or (y ∷ ys) k d) ≡ false in
      subst P e (order_at (y ∷ ys) h.1 k d (omega (arith, less)))

  pub sorted_orders : (xs : List X) → IsSortedBy lt (sorted_by lt xs)
  sorted_orders xs = λ k d low less. order_at (sorted_by lt xs) (in_order_sorted xs) k d less

  pub sorted_keeps : (xs : List X) → IsStableBy lt xs (sorted_by lt xs)
  sorted_keeps xs = λ z. filter_sorted z xs

  put_moves : (x : X) (ys : List X) → IsPermutation (x ∷ ys) (put_by lt x ys)
  put_moves x [] = IsPermutation-refl (x ∷ [])
  put_moves x (y ∷ ys) = by_case (lt y x)
      (IsPermutation-trans (x ∷ y ∷ ys) (y ∷ x ∷ ys) (y ∷ put_by lt x ys)
      (IsPermutation-sym (y ∷ x ∷ ys) (x ∷ y ∷ ys) (IsPermutation-middle (y ∷ []) x ys))
      (IsPermutation-cons y (x ∷ ys) (put_by lt x ys) (put_moves x ys)))
    where
      by_case : (b : Bool) → IsPermutation (x ∷ y ∷ ys) (y ∷ put_by lt x ys)
          → IsPermutation (x ∷ y ∷ ys) (cond b (y ∷ put_by lt x ys) (x ∷ y ∷ ys))
      by_case true deep = deep
      by_case false deep = IsPermutation-refl (x ∷ y ∷ ys)

  pub sorted_moves : (xs : List X) → IsPermutation xs (sorted_by lt xs)
  sorted_moves [] = IsPermutation-refl []
  sorted_moves (x ∷ xs) =
      IsPermutation-trans (x ∷ xs) (x ∷ sorted_by lt xs) (put_by lt x (sorted_by lt xs))
      (IsPermutation-cons x xs (sorted_by lt xs) (sorted_moves xs)) (put_moves x (sorted_by lt xs))

-- ---- the orders of entries

pub named_order : IsStrictWeakOrder is_named_before
named_order = ranks_by nat_list_cmp_total (λ (e : ServiceEntry). folded e.name)

pub earlier_order : IsStrictWeakOrder is_earlier
earlier_order = ranks_by nat_cmp_total (λ (e : ServiceEntry). e.turn)

pub newer_order : IsStrictWeakOrder is_newer
newer_order =
    IsStrictWeakOrder-flip (λ a b. is_lt (nat_cmp a.written b.written)) (ranks_by nat_cmp_total (λ (e : ServiceEntry). e.written))

pub orders_by : (by : SortBy) → IsStrictWeakOrder (comes_before by)
orders_by Name = named_order
orders_by Written = newer_order
orders_by Order = earlier_order
