-- A name was tried where it has a place among those that were.
use Rattle.std.proofs.Common.{◌≡◌, ℕ, suc, ◌+◌, Bool, true, false, cond, not, ltb, ◌||◌, List, [], ◌∷◌, length, Some, None, refl, ◌∙◌, arith}
use Rattle.std.specs.Prelude.{position}
use Rattle.std.specs.List.{list_any, position_or_len}
use Rattle.std.specs.Option.{is_some}
use Rattle.std.proofs.lemmas.Bool.{lt-ltb}
use Rattle.std.proofs.lemmas.Bool.Decides.{nat_tests}
use Rattle.nt_bytes.specs.Folding.{folds_same}
use Rattle.reg_tree.proofs.Unlike.{folds_swap}
use Rattle.start_model.specs.Entries.{Entry, was_tried}

pub shorter : (n len : ℕ) → ltb (1 + n) (suc len) ≡ ltb n len
shorter n len = grind (arith, nat_tests)

-- the first place that passes is in the list where an element passes
pub within : {X : Type 0} (p : X → Bool) (xs : List X) → ltb (position_or_len p xs) (length xs) ≡ list_any p xs
within p [] = refl
within p (x ∷ xs) = by_case (p x) (within p xs)
  where
    by_case : (b : Bool) → ltb (position_or_len p xs) (length xs) ≡ list_any p xs
        → ltb (cond (not b) (1 + position_or_len p xs) 0) (suc (length xs)) ≡ (b || list_any p xs)
    by_case true rest = lt-ltb 0 (suc (length xs)) (omega arith)
    by_case false rest = shorter (position_or_len p xs) (length xs) ∙ rest

some_where : (b : Bool) (n : ℕ) → is_some (cond b (Some n) None) ≡ b
some_where true n = refl
some_where false n = refl

pub some_place : {X : Type 0} (p : X → Bool) (xs : List X) → is_some (position p xs) ≡ list_any p xs
some_place p xs = some_where _ (position_or_len p xs) ∙ within p xs

pub is_tried : (tried : List (List ℕ)) (e : Entry) → is_some (position (folds_same e.name) tried) ≡ was_tried tried e
is_tried tried e =
    some_place (folds_same e.name) tried ∙ (λ j. list_any (λ name. folds_swap e.name name j) tried)
