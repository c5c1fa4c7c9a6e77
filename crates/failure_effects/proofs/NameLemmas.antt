-- Names found by their places.
use Rattle.std.proofs.Common.{◌≡◌, ◌≤◌, ℕ, Bool, true, false, cond, List, length, map, Option, Some, None, refl, sym, ap, ◌∙◌, arith}
use Rattle.std.specs.Prelude.{position, find, slice_get, nat_lt, option_and_then}
use Rattle.std.specs.List.{position_or_len}
use Rattle.std.specs.Option.{is_some}
use Rattle.std.proofs.lemmas.List.Folds.{find_at}
use Rattle.std.proofs.lemmas.Option.{slice_get_past}
use Rattle.std.proofs.lemmas.Bool.Decides.{nat_tests}
use Rattle.nt_bytes.specs.Folding.{folds_same}
use Rattle.boot_phases.proofs.TriedLemmas.{some_place}
use Rattle.boot_machine.proofs.Places.{position_map}
use Rattle.failure_effects.specs.Lost.{has_name}
use Rattle.failure_effects.specs.declared.told.Told.{Told}
use Rattle.failure_effects.specs.States.{told_named}

pub has_place : (names : List (List ℕ)) (name : List ℕ)
    → is_some (position (folds_same name) names) ≡ has_name names name
has_place names name = some_place (folds_same name) names

past : (n len : ℕ) → nat_lt n len ≡ false → len ≤ n
past n len h = grind (arith, nat_tests)

-- what passes first is at the first place that passes
found_at : {X : Type 0} (p : X → Bool) (xs : List X) (b : Bool) → nat_lt (position_or_len p xs) (length xs) ≡ b
    → option_and_then (slice_get xs) (cond b (Some (position_or_len p xs)) None) ≡ find p xs
found_at p xs true is = sym (find_at p xs)
found_at p xs false is = sym (find_at p xs ∙ slice_get_past xs (position_or_len p xs) (past (position_or_len p xs) (length xs) is))

pub found_place : {X : Type 0} (p : X → Bool) (xs : List X) → option_and_then (slice_get xs) (position p xs) ≡ find p xs
found_place p xs = found_at p xs (nat_lt (position_or_len p xs) (length xs)) refl

-- what is reported of a name, by the place of the name among the names
pub named_at : (told : List Told) (name : List ℕ)
    → option_and_then (slice_get told) (position (folds_same name) (map (λ (t : Told). t.name) told)) ≡ told_named told name
named_at told name =
    ap (option_and_then (slice_get told)) (position_map (λ (t : Told). t.name) (folds_same name) told)
    ∙ found_place (λ (t : Told). folds_same name t.name) told

-- the same by the place that was found, or that there is none
pub named_here : (told : List Told) (name : List ℕ) (o : Option ℕ) (at : ℕ) (r : Option Told)
    → o ≡ position (folds_same name) (map (λ (t : Told). t.name) told) → o ≡ Some at → r ≡ slice_get told at
    → r ≡ told_named told name
named_here told name o at r is some found =
    found ∙ ap (option_and_then (slice_get told)) (sym some ∙ is) ∙ named_at told name

pub named_nowhere : (told : List Told) (name : List ℕ) (o : Option ℕ)
    → o ≡ position (folds_same name) (map (λ (t : Told). t.name) told) → o ≡ None → None ≡ told_named told name
named_nowhere told name o is none =
    ap (option_and_then (slice_get told)) (sym none ∙ is) ∙ named_at told name
