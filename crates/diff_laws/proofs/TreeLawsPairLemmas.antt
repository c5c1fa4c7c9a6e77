-- Where the names of two lists fold to the same, place by place, each name finds what has its own place in the other list.
use Rattle.std.proofs.Common.{◌≡◌, ℕ, Bool, true, false, cond, List, [], ◌∷◌, map, filter, refl, sym, ap, ◌∙◌}
use Rattle.std.specs.Prelude.{Option, Some, find, position, slice_get, option_and_then}
use Rattle.std.specs.List.{list_all}
use Rattle.std.proofs.lemmas.Bool.{false≢true, and_parts}
use Rattle.nt_bytes.specs.Folding.{folds_same}
use Rattle.nt_names.proofs.FoldLemmas.{alike}
use Rattle.boot_phases.proofs.FirstLemmas.{find_at_place, position-map}
use Rattle.reg_tree.proofs.Unlike.{Each, Unlike, folds_swap}
use Rattle.set_diff.specs.Listed.{has, shared}
use Rattle.set_diff.specs.Shown.{names_same}
use Rattle.diff_laws.specs.diff_laws.Laws.{has_all}
use Rattle.diff_laws.proofs.OwnLemmas.{each_more}

-- ---- lists that have each other's names

kept : (p : List ℕ → Bool) (ns : List (List ℕ)) → list_all p ns ≡ true → filter p ns ≡ ns
kept p [] all = refl
kept p (n ∷ ns) all =
    let both = and_parts (p n) (list_all p ns) all in
    ap (λ (c : Bool). cond c (n ∷ filter p ns) (filter p ns)) both.0 ∙ ap (λ (xs : List (List ℕ)). n ∷ xs) (kept p ns both.1)

-- the names that both have are all
pub same_by_shared : (ns ms : List (List ℕ)) → has_all ns ms ≡ true → has_all ms ns ≡ true
    → names_same (shared ns ms) (shared ms ns) ≡ true → names_same ns ms ≡ true
same_by_shared ns ms here there same =
    sym (λ i. names_same (kept (has ms) ns here i) (kept (has ns) ms there i)) ∙ same

-- ---- pairs

-- each name of the first list finds what has its place in the second
abbrev pub Paired : {X : Type 0} → (List ℕ → Option X) → (X → List ℕ) → List X → List X → Type 0
Paired found name [] [] = Unit {0}
Paired found name [] (y ∷ ys) = ⊥
Paired found name (x ∷ xs) [] = ⊥
Paired found name (x ∷ xs) (y ∷ ys) = (found (name x) ≡ Some y) × Paired found name xs ys

paired_by : {X : Type 0} (f g : List ℕ → Option X) (name : X → List ℕ) (xs ys : List X) → ((n : List ℕ) → f n ≡ g n)
    → Paired g name xs ys → Paired f name xs ys
paired_by f g name [] [] same paired = tt
paired_by f g name [] (y ∷ ys) same paired = absurd paired
paired_by f g name (x ∷ xs) [] same paired = absurd paired
paired_by f g name (x ∷ xs) (y ∷ ys) same paired = (same (name x) ∙ paired.0, paired_by f g name xs ys same paired.1)

-- one more before those in which a name is found, unlike each of the names
paired_more : {X : Type 0} (name : X → List ℕ) (y : X) (xs ys zs : List X) → Each (λ x. folds_same (name x) (name y) ≡ false) xs
    → Paired (λ n. find (λ z. folds_same n (name z)) ys) name xs zs
    → Paired (λ n. find (λ z. folds_same n (name z)) (y ∷ ys)) name xs zs
paired_more name y [] ys [] off paired = tt
paired_more name y [] ys (z ∷ zs) off paired = absurd paired
paired_more name y (x ∷ xs) ys [] off paired = absurd paired
paired_more name y (x ∷ xs) ys (z ∷ zs) off paired = (
  ap (λ (b : Bool). cond b (Some y) (find (λ w. folds_same (name x) (name w)) ys)) off.0 ∙ paired.0,
  paired_more name y xs ys zs off.1 paired.1,
)

-- a name unlike one is unlike what folds to that one
unlike_pair : (n a b : List ℕ) → folds_same n a ≡ false → folds_same a b ≡ true → folds_same n b ≡ false
unlike_pair n a b off same = folds_swap n b ∙ sym (alike a b same n) ∙ folds_swap a n ∙ off

found_pairs : {X : Type 0} (name : X → List ℕ) (xs ys : List X) → Unlike name xs → names_same (map name xs) (map name ys) ≡ true
    → Paired (λ n. find (λ z. folds_same n (name z)) ys) name xs ys
found_pairs name [] [] apart same = tt
found_pairs name [] (y ∷ ys) apart same = absurd (false≢true same)
found_pairs name (x ∷ xs) [] apart same = absurd (false≢true same)
found_pairs name (x ∷ xs) (y ∷ ys) apart same =
    let both = and_parts (folds_same (name x) (name y)) (names_same (map name xs) (map name ys)) same in (
      ap (λ (b : Bool). cond b (Some y) (find (λ z. folds_same (name x) (name z)) ys)) both.0,
      paired_more name y xs ys ys
          (each_more (λ z. folds_same (name z) (name x) ≡ false) (λ z. folds_same (name z) (name y) ≡ false) xs
          (λ z off. unlike_pair (name z) (name x) (name y) off both.0) apart.0)
          (found_pairs name xs ys apart.1 both.1),
    )

pub all_paired : {X : Type 0} (name : X → List ℕ) (xs ys : List X) → Unlike name xs → names_same (map name xs) (map name ys) ≡ true
    → Paired (λ n. option_and_then (slice_get ys) (position (folds_same n) (map name ys))) name xs ys
all_paired name xs ys apart same =
    paired_by (λ n. option_and_then (slice_get ys) (position (folds_same n) (map name ys))) (λ n. find (λ z. folds_same n (name z)) ys)
    name xs ys
    (λ n. ap (option_and_then (slice_get ys)) (position-map (folds_same n) name ys) ∙ sym (find_at_place (λ z. folds_same n (name z)) ys))
    (found_pairs name xs ys apart same)
