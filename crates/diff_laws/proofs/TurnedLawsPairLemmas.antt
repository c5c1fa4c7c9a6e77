-- What there is of the pairs of two lists is the same from either list, but for its order.
use Rattle.std.proofs.Common.{◌≡◌, ℕ, Bool, true, false, cond, List, [], ◌∷◌, ◌++◌, map, refl, sym, ap, subst, ◌∙◌}
use Rattle.std.specs.Prelude.{Option, Some, None, IsPermutation, find, position, slice_get, option_and_then}
use Rattle.std.specs.Option.{option_map_or}
use Rattle.std.proofs.lemmas.List.{append_assoc}
use Rattle.std.proofs.lemmas.List.Sorted.{IsPermutation-append, IsPermutation-append_comm, IsPermutation-refl, IsPermutation-trans}
use Rattle.nt_bytes.specs.Folding.{folds_same}
use Rattle.boot_phases.proofs.FirstLemmas.{find_at_place, position-map}
use Rattle.reg_tree.proofs.Unlike.{Each, Lacks, Unlike, folds_swap}
use Rattle.diff_laws.proofs.FoldLemmas.{same_first}

-- ---- what is found by a name

-- the one of a name
abbrev pub found_by : {X : Type 0} → (X → List ℕ) → List X → List ℕ → Option X
found_by name xs n = find (λ x. folds_same n (name x)) xs

-- what is at the place of a name is what is found by it
pub named_find : {X : Type 0} (name : X → List ℕ) (xs : List X) (n : List ℕ)
    → option_and_then (slice_get xs) (position (folds_same n) (map name xs)) ≡ found_by name xs n
named_find name xs n =
    ap (option_and_then (slice_get xs)) (position-map (folds_same n) name xs) ∙ sym (find_at_place (λ x. folds_same n (name x)) xs)

-- one that is found has what each has, and passes
abbrev pub OnFound : {X : Type 0} → (X → Type 0) → (X → Bool) → Option X → Type 0
OnFound P p None = Unit {0}
OnFound P p (Some x) = P x × (p x ≡ true)

pub found_is : {X : Type 0} (P : X → Type 0) (p : X → Bool) (xs : List X) → Each P xs → OnFound P p (find p xs)
found_is P p [] each = tt
found_is P p (x ∷ xs) each = by (p x) refl (found_is P p xs each.1)
  where
    by : (b : Bool) → p x ≡ b → OnFound P p (find p xs) → OnFound P p (cond b (Some x) (find p xs))
    by true passes rest = (each.0, passes)
    by false passes rest = rest

none_by : {X : Type 0} (name : X → List ℕ) (n m : List ℕ) (xs : List X) → folds_same n m ≡ true → Lacks name m xs
    → found_by name xs n ≡ None
none_by name n m [] same lacks = refl
none_by name n m (x ∷ xs) same lacks =
    ap (λ (b : Bool). cond b (Some x) (found_by name xs n)) (same_first n m (name x) same ∙ folds_swap m (name x) ∙ lacks.0)
    ∙ none_by name n m xs same lacks.1

-- ---- pairs

-- what there is of each of these and the one of its name among the others
abbrev pub pairs_in : {X B : Type 0} → (X → List ℕ) → (X → X → List B) → List X → List X → List B
pairs_in name f others [] = []
pairs_in name f others (x ∷ xs) = option_map_or (f x) (found_by name others (name x)) [] ++ pairs_in name f others xs

pub pairs_none : {X B : Type 0} (name : X → List ℕ) (g : X → X → List B) (us : List X) → pairs_in name g [] us ≡ []
pairs_none name g [] = refl
pairs_none name g (u ∷ us) = pairs_none name g us

move_past : {B : Type 0} (xs ys zs : List B) → IsPermutation (xs ++ (ys ++ zs)) (ys ++ (xs ++ zs))
move_past {B} xs ys zs =
    subst (λ (l : List B). IsPermutation l (ys ++ (xs ++ zs))) (append_assoc xs ys zs)
    (subst (IsPermutation ((xs ++ ys) ++ zs)) (append_assoc ys xs zs)
    (IsPermutation-append (xs ++ ys) (ys ++ xs) zs zs (IsPermutation-append_comm xs ys) (IsPermutation-refl zs)))

-- one more among which the others are searched
one_more : {X B : Type 0} (name : X → List ℕ) (g : X → X → List B) (t : X) (ts us : List X) → Lacks name (name t) ts → Unlike name us
    → IsPermutation (option_map_or (λ u. g u t) (found_by name us (name t)) [] ++ pairs_in name g ts us) (pairs_in name g (t ∷ ts) us)
one_more {X} {B} name g t ts [] lacks apart = IsPermutation-refl []
one_more {X} {B} name g t ts (u ∷ us) lacks apart =
    subst (λ (c : Bool). IsPermutation (option_map_or (λ v. g v t) (found_by name (u ∷ us) (name t)) [] ++ pairs_in name g ts (u ∷ us))
    (option_map_or (g u) (cond c (Some t) (found_by name ts (name u))) [] ++ pairs_in name g (t ∷ ts) us))
    (folds_swap (name t) (name u))
    (by (folds_same (name t) (name u)) refl (one_more name g t ts us lacks apart.1))
  where
    by : (b : Bool) → folds_same (name t) (name u) ≡ b
        → IsPermutation (option_map_or (λ v. g v t) (found_by name us (name t)) [] ++ pairs_in name g ts us) (pairs_in name g (t ∷ ts) us)
        → IsPermutation
        (option_map_or (λ v. g v t) (cond b (Some u) (found_by name us (name t))) []
        ++ (option_map_or (g u) (found_by name ts (name u)) [] ++ pairs_in name g ts us))
        (option_map_or (g u) (cond b (Some t) (found_by name ts (name u))) [] ++ pairs_in name g (t ∷ ts) us)
    by true same rest =
        let here = none_by name (name t) (name u) us same apart.0 in
        let there = none_by name (name u) (name t) ts (folds_swap (name u) (name t) ∙ same) lacks in
        subst (λ (o : Option X). IsPermutation (g u t ++ (option_map_or (g u) o [] ++ pairs_in name g ts us)) (g u t ++ pairs_in name g (t ∷ ts) us))
        (sym there)
        (IsPermutation-append (g u t) (g u t) (pairs_in name g ts us) (pairs_in name g (t ∷ ts) us) (IsPermutation-refl (g u t))
        (subst (λ (o : Option X). IsPermutation (option_map_or (λ v. g v t) o [] ++ pairs_in name g ts us) (pairs_in name g (t ∷ ts) us)) here rest))
    by false same rest =
        let mine : List B = option_map_or (λ v. g v t) (found_by name us (name t)) [] in
        let its : List B = option_map_or (g u) (found_by name ts (name u)) [] in
        IsPermutation-trans (mine ++ (its ++ pairs_in name g ts us)) (its ++ (mine ++ pairs_in name g ts us)) (its ++ pairs_in name g (t ∷ ts) us)
        (move_past mine its (pairs_in name g ts us))
        (IsPermutation-append its its (mine ++ pairs_in name g ts us) (pairs_in name g (t ∷ ts) us) (IsPermutation-refl its) rest)

-- one more that has a pair, or none
pub pairs_more : {X B : Type 0} (name : X → List ℕ) (f g : X → X → List B) (t : X) (ts us : List X) → Lacks name (name t) ts → Unlike name us
    → IsPermutation (option_map_or (f t) (found_by name us (name t)) []) (option_map_or (λ u. g u t) (found_by name us (name t)) [])
    → IsPermutation (pairs_in name f us ts) (pairs_in name g ts us)
    → IsPermutation (pairs_in name f us (t ∷ ts)) (pairs_in name g (t ∷ ts) us)
pairs_more {X} {B} name f g t ts us lacks apart one rest =
    let before : List B = option_map_or (f t) (found_by name us (name t)) [] in
    let after : List B = option_map_or (λ u. g u t) (found_by name us (name t)) [] in
    IsPermutation-trans (before ++ pairs_in name f us ts) (after ++ pairs_in name g ts us) (pairs_in name g (t ∷ ts) us)
    (IsPermutation-append before after (pairs_in name f us ts) (pairs_in name g ts us) one rest)
    (one_more name g t ts us lacks apart)
