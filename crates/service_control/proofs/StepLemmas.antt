-- Steps of the loops over entries and names.
use Rattle.std.proofs.Common.{◌≡◌, ℕ, suc, ◌+◌, Bool, true, false, List, [], ◌∷◌, ◌++◌, length, take, get_or, Option, Some, None, refl, sym, ap, ◌∙◌, inl, inr, arith, zero-add}
use Rattle.std.specs.Prelude.{position, slice_get}
use Rattle.std.specs.List.{list_any, filter_map, cons_option, items_where_true, range_with_len}
use Rattle.std.specs.Option.{is_some, option_and_then}
use Rattle.std.proofs.lemmas.List.{take_more, take_all, append-nil}
use Rattle.std.proofs.lemmas.List.Elements.{filter_map-append}
use Rattle.std.proofs.lemmas.Option.{slice_get_cases}
use Rattle.nt_bytes.specs.Folding.{folds_same}
use Rattle.start_model.specs.Demand.{Need}
use Rattle.boot_phases.proofs.TriedLemmas.{some_place}
use Rattle.dependencies.proofs.KeptLemmas.{range_push}

-- ---- names

pub some_placed : (names : List (List ℕ)) (name : List ℕ)
    → is_some (position (folds_same name) names) ≡ list_any (folds_same name) names
some_placed names name = some_place (folds_same name) names

-- ---- items at places

abbrev no_needs : List Need
no_needs = []

none_picked : (bs : List Bool) → items_where_true bs no_needs ≡ []
none_picked [] = refl
none_picked (b ∷ bs) = refl

picked_from : (bs : List Bool) (xs all : List Need) (i : ℕ) → ((k : ℕ) → slice_get all (i + k) ≡ slice_get xs k)
    → filter_map (slice_get all) (items_where_true bs (range_with_len i (length bs))) ≡ items_where_true bs xs
picked_from [] xs all i at = refl
picked_from (true ∷ bs) [] all i at =
    let here : slice_get all i ≡ None = ap (slice_get all) (let z : i ≡ i + 0 = omega arith in z) ∙ at 0 in
    ap (λ o. cons_option o (filter_map (slice_get all) (items_where_true bs (range_with_len (i + 1) (length bs))))) here
    ∙ picked_from bs [] all (i + 1)
    (λ k. ap (slice_get all) (let z : i + 1 + k ≡ i + suc k = omega arith in z) ∙ at (suc k)) ∙ none_picked bs
picked_from (false ∷ bs) [] all i at =
    picked_from bs [] all (i + 1)
    (λ k. ap (slice_get all) (let z : i + 1 + k ≡ i + suc k = omega arith in z) ∙ at (suc k)) ∙ none_picked bs
picked_from (true ∷ bs) (x ∷ xs) all i at =
    let here : slice_get all i ≡ Some x = ap (slice_get all) (let z : i ≡ i + 0 = omega arith in z) ∙ at 0 in
    ap (λ o. cons_option o (filter_map (slice_get all) (items_where_true bs (range_with_len (i + 1) (length bs))))) here
    ∙ ap (λ l. x ∷ l) (picked_from bs xs all (i + 1)
    (λ k. ap (slice_get all) (let z : i + 1 + k ≡ i + suc k = omega arith in z) ∙ at (suc k)))
picked_from (false ∷ bs) (x ∷ xs) all i at =
    picked_from bs xs all (i + 1)
    (λ k. ap (slice_get all) (let z : i + 1 + k ≡ i + suc k = omega arith in z) ∙ at (suc k))

-- those at the places whose flag is true are those whose flag is true
pub picked_places : (bs : List Bool) (xs : List Need)
    → filter_map (slice_get xs) (items_where_true bs (range_with_len 0 (length bs))) ≡ items_where_true bs xs
picked_places bs xs = picked_from bs xs xs 0 (λ k. ap (slice_get xs) (zero-add k))

-- ---- one more item

at_by : {X Y : Type 0} (h : X → Option Y) (xs : List X) (i : ℕ) (o : Option Y) (ys : List Y)
    → o ≡ option_and_then h (slice_get xs i) → ys ≡ filter_map h (take i xs)
    → ys ++ cons_option o [] ≡ filter_map h (take (i + 1) xs)
at_by h xs i o ys is so_far = elim (slice_get_cases xs i).1 [
  | inl found ↦
      (let x = found.0 in
      let here : o ≡ h (get_or xs i x) = is ∙ ap (option_and_then h) found.2 ∙ ap h (sym found.3) in
      (λ j. so_far j ++ cons_option (here j) []) ∙ sym (filter_map-append h (take i xs) (get_or xs i x ∷ []))
      ∙ ap (filter_map h) (sym (take_more xs i x found.1)))
  | inr past ↦
      (let none : o ≡ None = is ∙ ap (option_and_then h) past.1 in
      ap (λ q. ys ++ cons_option q []) none ∙ append-nil ys ∙ so_far
      ∙ ap (filter_map h) (take_all i xs past.0 ∙ sym (take_all (i + 1) xs (omega (arith, past.0)))))
]

pub at_some : {X Y : Type 0} (h : X → Option Y) (xs : List X) (i : ℕ) (o : Option Y) (y : Y) (ys : List Y)
    → o ≡ option_and_then h (slice_get xs i) → o ≡ Some y → ys ≡ filter_map h (take i xs)
    → ys ++ y ∷ [] ≡ filter_map h (take (i + 1) xs)
at_some h xs i o y ys is some so_far = ap (λ q. ys ++ cons_option q []) (sym some) ∙ at_by h xs i o ys is so_far

pub at_none : {X Y : Type 0} (h : X → Option Y) (xs : List X) (i : ℕ) (o : Option Y) (ys : List Y)
    → o ≡ option_and_then h (slice_get xs i) → o ≡ None → ys ≡ filter_map h (take i xs)
    → ys ≡ filter_map h (take (i + 1) xs)
at_none h xs i o ys is none so_far =
    sym (append-nil ys) ∙ ap (λ q. ys ++ cons_option q []) (sym none) ∙ at_by h xs i o ys is so_far

range_by : {Y : Type 0} (h : ℕ → Option Y) (i : ℕ) (ys : List Y) → ys ≡ filter_map h (range_with_len 0 i)
    → ys ++ cons_option (h i) [] ≡ filter_map h (range_with_len 0 (i + 1))
range_by h i ys so_far = ap (λ l. l ++ cons_option (h i) []) so_far
    ∙ sym (filter_map-append h (range_with_len 0 i) (i ∷ [])) ∙ ap (filter_map h) (sym (range_push i))

pub range_some : {Y : Type 0} (h : ℕ → Option Y) (i : ℕ) (o : Option Y) (y : Y) (ys : List Y) → o ≡ h i → o ≡ Some y
    → ys ≡ filter_map h (range_with_len 0 i) → ys ++ y ∷ [] ≡ filter_map h (range_with_len 0 (i + 1))
range_some h i o y ys is some so_far = ap (λ q. ys ++ cons_option q []) (sym some ∙ is) ∙ range_by h i ys so_far

pub range_none : {Y : Type 0} (h : ℕ → Option Y) (i : ℕ) (o : Option Y) (ys : List Y) → o ≡ h i → o ≡ None
    → ys ≡ filter_map h (range_with_len 0 i) → ys ≡ filter_map h (range_with_len 0 (i + 1))
range_none h i o ys is none so_far =
    sym (append-nil ys) ∙ ap (λ q. ys ++ cons_option q []) (sym none ∙ is) ∙ range_by h i ys so_far
