-- Where a name is found in a list, and what is read there.
use Rattle.std.proofs.Common.{◌≡◌, ℕ, ◌<◌, true, false, nat_eq, List, [], length, get_or, Option, Some, None, refl, ap, ◌∙◌}
use Rattle.std.specs.Prelude.{position, slice_get}
use Rattle.std.specs.Option.{option_map_or}
use Rattle.std.proofs.lemmas.Bool.{false≢true, eqb-true}
use Rattle.std.proofs.lemmas.List.Quantifiers.{position-Some}
use Rattle.std.proofs.lemmas.Option.{slice_get_read}
use Rattle.nt_bytes.specs.Folding.{folds_same}
use Rattle.nt_names.proofs.FoldLemmas.{alike}
use Rattle.dependencies.proofs.MeetLemmas.{names_flip}

pub place_below : (names : List (List ℕ)) (g : List ℕ) (k : ℕ) → position (folds_same g) names ≡ Some k → k < length names
place_below names g k at = (position-Some (folds_same g) names k [] at).0

-- a name that is found where another one is folds as that one does
pub place_here : (names : List (List ℕ)) (g n : List ℕ) (k : ℕ) → position (folds_same g) names ≡ Some k
    → option_map_or (nat_eq k) (position (folds_same n) names) false ≡ true → folds_same g n ≡ true
place_here names g n k at h = by (position (folds_same n) names) refl h
  where
    by : (o : Option ℕ) → position (folds_same n) names ≡ o → option_map_or (nat_eq k) o false ≡ true → folds_same g n ≡ true
    by None e h = absurd (false≢true h)
    by (Some m) e h =
        let same : k ≡ m = eqb-true k m h in
        let mine : folds_same g (get_or names k []) ≡ true = (position-Some (folds_same g) names k [] at).1 in
        let other : folds_same n (get_or names k []) ≡ true =
        ap (λ i. folds_same n (get_or names i [])) same ∙ (position-Some (folds_same n) names m [] e).1 in
        alike g (get_or names k []) mine n ∙ names_flip (get_or names k []) n ∙ other

-- what is read at a place
pub got : {X : Type 0} (xs : List X) (i : ℕ) (x : X) → i < length xs → x ≡ get_or xs i x → slice_get xs i ≡ Some x
got xs i x lt is = slice_get_read xs (length xs) i x refl lt is
