-- When a list of lines is empty.
use Rattle.std.proofs.Common.{◌≡◌, ℕ, ◌+◌, Bool, true, false, not, ◌&&◌, cond, List, [], ◌∷◌, ◌++◌, map, filter, refl, ap, ◌∙◌}
use Rattle.std.specs.Prelude.{Option, Some, None}
use Rattle.std.specs.List.{list_all, flat_map}
use Rattle.std.specs.Option.{option_map_or}
use Rattle.answer_lines.specs.declared.diff_lines.lines.DiffLine.{DiffLine}
use Rattle.answer_lines.specs.declared.diff_lines.lines.DiffLine.TheVariants.{Parts}
use Rattle.answer_lines.specs.declared.diff_lines.lines.Sequence.{Sequence}
use Rattle.answer_lines.specs.declared.diff_lines.lines.Shown.TheVariants.{Text}
use Rattle.nt_bytes.specs.Folding.{folds_same}
use Rattle.set_diff.specs.Listed.{parts_from}
use Rattle.set_diff.specs.Shown.{line_when, names_same}
use Rattle.diff_laws.specs.diff_laws.Laws.{is_none}

pub none_append : (xs ys : List DiffLine) → is_none (xs ++ ys) ≡ (is_none xs && is_none ys)
none_append [] ys = refl
none_append (x ∷ xs) ys = refl

pub none_when : (b : Bool) (line : DiffLine) → is_none (line_when b line) ≡ not b
none_when true line = refl
none_when false line = refl

pub none_map : {X : Type 0} (f : X → DiffLine) (p : X → Bool) (xs : List X) → is_none (map f (filter p xs)) ≡ list_all (λ x. not (p x)) xs
none_map f p [] = refl
none_map f p (x ∷ xs) = by (p x) (none_map f p xs)
  where
    by : (b : Bool) → is_none (map f (filter p xs)) ≡ list_all (λ y. not (p y)) xs
        → is_none (map f (cond b (x ∷ filter p xs) (filter p xs))) ≡ (not b && list_all (λ y. not (p y)) xs)
    by true rest = refl
    by false rest = rest

-- each item is without a line
pub none_flat : {X : Type 0} (f : X → List DiffLine) (p : X → Bool) (xs : List X) → ((x : X) → is_none (f x) ≡ p x)
    → is_none (flat_map f xs) ≡ list_all p xs
none_flat f p [] each = refl
none_flat f p (x ∷ xs) each =
    none_append (f x) (flat_map f xs) ∙ (λ i. each x i && none_flat f p xs each i)

-- what there is of an item's pair
pub none_pair : {X : Type 0} (f : X → List DiffLine) (p : X → Bool) (o : Option X) → ((x : X) → is_none (f x) ≡ p x)
    → is_none (option_map_or f o []) ≡ option_map_or p o true
none_pair f p None each = refl
none_pair f p (Some x) each = each x

pub none_parts : (sequence : Sequence) (place : ℕ) (xs ys : List (List ℕ)) → is_none (parts_from sequence place xs ys) ≡ names_same xs ys
none_parts sequence place [] [] = refl
none_parts sequence place [] (y ∷ ys) = refl
none_parts sequence place (x ∷ xs) [] = refl
none_parts sequence place (x ∷ xs) (y ∷ ys) = by (folds_same x y) (none_parts sequence (place + 1) xs ys)
  where
    by : (b : Bool) → is_none (parts_from sequence (place + 1) xs ys) ≡ names_same xs ys
        → is_none (cond b (parts_from sequence (place + 1) xs ys) (Parts sequence place (Text x) (Text y) ∷ [])) ≡ (b && names_same xs ys)
    by true e = e
    by false e = refl

-- ---- tests of all items

pub all_same : {X : Type 0} (p q : X → Bool) (xs : List X) → ((x : X) → p x ≡ q x) → list_all p xs ≡ list_all q xs
all_same p q [] each = refl
all_same p q (x ∷ xs) each = λ i. each x i && all_same p q xs each i

pub all_map : {X : Type 0} (f : X → List ℕ) (p : List ℕ → Bool) (xs : List X) → list_all (λ x. p (f x)) xs ≡ list_all p (map f xs)
all_map f p [] = refl
all_map f p (x ∷ xs) = ap (λ b. p (f x) && b) (all_map f p xs)

pub not_not : (b : Bool) → not (not b) ≡ b
not_not true = refl
not_not false = refl
