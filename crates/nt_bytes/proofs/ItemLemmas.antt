-- The first of a list of strings.
use Rattle.std.proofs.Common.{◌≡◌, ℕ, suc, ◌+◌, ◌<◌, ◌≤◌, Bool, true, false, eqb, ltb, ◌++◌, List, [], ◌∷◌, length, drop, arith, refl, ◌∙◌, ap, sym, append_assoc, length-append, ◌*◌}
use Rattle.std.specs.List.{prefix_len, position_or_len, before_first, after_first, slice_split, take_while, All}
use Rattle.std.proofs.lemmas.List.{take_all, drop_all}
use Rattle.std.proofs.lemmas.List.Elements.{All-from_get_or}
use Rattle.std.proofs.lemmas.List.Sums.{fails_before_first}
use Rattle.std.proofs.lemmas.List.Splits.{slice_split_first, slice_split_none}
use Rattle.std.proofs.lemmas.Bool.{ltb-true, ltb-false, eqb-true, ne_eqb}
use Rattle.std.proofs.lemmas.Bool.Decides.{nat_tests}
use Rattle.std.proofs.lemmas.List.{append-nil}
use Rattle.nt_bytes.specs.Text.{is_zero, is_filled, items_of}

-- the first part, and what the parts after it give
record Parts (units : List ℕ) : Type 0 where
  more : List (List ℕ)
  whole : slice_split is_zero units ≡ before_first is_zero units ∷ more
  behind : take_while is_filled more ≡ items_of (after_first is_zero units)

no_zero : (units : List ℕ) → length units ≤ position_or_len is_zero units → All (λ u. is_zero u ≡ false) units
no_zero units all = All-from_get_or (λ u. is_zero u ≡ false) units 0
    (λ i lt. fails_before_first is_zero units i 0 (omega arith))

parts_by : (units : List ℕ) (b : Bool) → ltb (position_or_len is_zero units) (length units) ≡ b → Parts units
parts_by units true e = record {
  more = slice_split is_zero (after_first is_zero units);
  whole = slice_split_first is_zero units 0 (ltb-true _ _ e);
  behind = refl;
}
parts_by units false e = record {
  more = [];
  whole = slice_split_none is_zero units (no_zero units (ltb-false _ _ e))
      ∙ ap (λ (x : List ℕ). x ∷ []) (sym (take_all _ units (ltb-false _ _ e)));
  behind =
      let le : length units ≤ position_or_len is_zero units = ltb-false _ _ e in
      let none : drop (position_or_len is_zero units + 1) units ≡ [] = drop_all _ units (omega arith) in
      rw none refl;
}

parts_at : (units : List ℕ) → Parts units
parts_at units = parts_by units (ltb (position_or_len is_zero units) (length units)) refl

first_stays : (x : List ℕ) (more : List (List ℕ)) → 0 < length x
    → take_while is_filled (x ∷ more) ≡ x ∷ take_while is_filled more
first_stays [] more some = absurd (omega arith)
first_stays (c ∷ x) more some =
    let full : eqb (length (c ∷ x)) 0 ≡ false = ne_eqb _ 0 (λ e. absurd (omega arith)) in
    let one : 1 + prefix_len is_filled more ≡ suc (prefix_len is_filled more) = omega arith in
    rw (full, one) refl

first_ends : (x : List ℕ) (more : List (List ℕ)) → length x ≡ 0 → take_while is_filled (x ∷ more) ≡ []
first_ends [] more none = refl
first_ends (c ∷ x) more none = absurd (omega arith)

-- no string is left
no_items : (units : List ℕ) → length (before_first is_zero units) ≡ 0 → items_of units ≡ []
no_items units none =
    let p = parts_at units in
    ap (take_while is_filled) p.whole ∙ first_ends (before_first is_zero units) p.more none

-- the first string, and those after it
more_items : (units : List ℕ) → 0 < length (before_first is_zero units)
    → items_of units ≡ before_first is_zero units ∷ items_of (after_first is_zero units)
more_items units some =
    let p = parts_at units in
    ap (take_while is_filled) p.whole ∙ first_stays (before_first is_zero units) p.more some
    ∙ ap (λ (xs : List (List ℕ)). before_first is_zero units ∷ xs) p.behind

-- at an empty string all are found
pub found_all : (units item : List ℕ) (names total : List (List ℕ)) (b : Bool) → item ≡ before_first is_zero units
    → b ≡ eqb (length item) 0 → b ≡ true
    → names ++ items_of units ≡ total → names ≡ total
found_all units item names total b is empty found so_far =
    let none : length item ≡ 0 = eqb-true _ _ (sym empty ∙ found) in
    let left : items_of units ≡ [] = no_items units (ap length (sym is) ∙ none) in
    sym (append-nil names) ∙ ap (λ (xs : List (List ℕ)). names ++ xs) (sym left) ∙ so_far

-- one more string is found
pub found_one : (units item after : List ℕ) (names more total : List (List ℕ)) (b : Bool)
    → item ≡ before_first is_zero units → after ≡ after_first is_zero units
    → b ≡ eqb (length item) 0 → b ≡ false → more ≡ names ++ item ∷ [] → names ++ items_of units ≡ total
    → more ++ items_of after ≡ total
found_one units item after names more total b is behind empty left_over pushed so_far =
    let some : 0 < length (before_first is_zero units) = rw (← is) (grind (arith, nat_tests)) in
    let left : items_of units ≡ item ∷ items_of after = rw (is, behind) (more_items units some) in
    rw pushed (append_assoc names (item ∷ []) (items_of after)) ∙ ap (λ (xs : List (List ℕ)). names ++ xs) (sym left)
    ∙ so_far

-- each string takes a unit or more
pub room_for_one : (names more : List (List ℕ)) (item : List ℕ) (b : Bool) (rest after size : ℕ)
    → b ≡ eqb (length item) 0 → b ≡ false → more ≡ names ++ item ∷ []
    → length item + after ≤ rest → 2 * length names + 2 * rest ≤ size → 2 * length more + 2 * after ≤ size
room_for_one names more item b rest after size empty left_over pushed shorter half =
    let some : 0 < length item = grind (arith, nat_tests) in
    let count : length more ≡ length names + 1 = ap length pushed ∙ length-append names (item ∷ []) in
    omega arith
