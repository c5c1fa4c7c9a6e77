-- Names without those that fold as one before them.
use Rattle.std.proofs.Common.{◌≡◌, ℕ, ◌+◌, ◌<◌, ◌≤◌, Bool, true, false, cond, ◌&&◌, ◌||◌, List, [], ◌∷◌, ◌++◌, length, take, get_or, Some, refl, sym, ap, ◌∙◌, arith}
use Rattle.std.proofs.lemmas.Bool.{eq-eqb}
use Rattle.std.proofs.lemmas.List.{take_more}
use Rattle.std.specs.Prelude.{◌↔◌, IsTrue, not, filter, position}
use Rattle.std.specs.List.{list_any}
use Rattle.std.proofs.lemmas.List.Elements.{filter-append}
use Rattle.std.proofs.lemmas.List.Sums.{length-filter, count_by-le-length}
use Rattle.nt_bytes.specs.Folding.{folded_unit, folds_same}
use Rattle.reg_tree.proofs.Unlike.{folds_swap}
use Rattle.start_model.specs.Order.{first_names}
use Rattle.boot_phases.proofs.FirstLemmas.{first_at}

folds_itself : (name : List ℕ) → folds_same name name ≡ true
folds_itself [] = refl
folds_itself (x ∷ xs) = ap (λ b. b && folds_same xs xs) (eq-eqb (folded_unit x) (folded_unit x) refl) ∙ folds_itself xs

one_kept : (n x : List ℕ) (a b : Bool) → folds_same n x ≡ a
    → filter (λ m. not (folds_same n m)) (cond b [] (x ∷ [])) ≡ cond (a || b) [] (x ∷ [])
one_kept n x true true h = refl
one_kept n x false true h = refl
one_kept n x true false h = ap (λ a. cond (not a) (x ∷ []) []) h
one_kept n x false false h = ap (λ a. cond (not a) (x ∷ []) []) h

-- one more name after counts where none before it folds alike
first_names_push : (ns : List (List ℕ)) (x : List ℕ)
    → first_names (ns ++ x ∷ []) ≡ first_names ns ++ cond (list_any (λ n. folds_same n x) ns) [] (x ∷ [])
first_names_push [] x = refl
first_names_push (n ∷ ns) x =
    let before : Bool = list_any (λ m. folds_same m x) ns in
    let kept : List (List ℕ) → List (List ℕ) = filter (λ m. not (folds_same n m)) in
    ap (λ ms. n ∷ kept ms) (first_names_push ns x)
    ∙ ap (λ ms. n ∷ ms) (filter-append (λ m. not (folds_same n m)) (first_names ns) (cond before [] (x ∷ [])))
    ∙ ap (λ ms. n ∷ (kept (first_names ns) ++ ms)) (one_kept n x (folds_same n x) before refl)

turned : (x : List ℕ) (a b : Bool) → b ≡ not a → cond a [] (x ∷ []) ≡ cond b (x ∷ []) []
turned x true b h = ap (λ b. cond b (x ∷ []) []) (sym h)
turned x false b h = ap (λ b. cond b (x ∷ []) []) (sym h)

-- the next name counts where it is the first that folds as it does
pub next_name : (ns : List (List ℕ)) (i : ℕ) (x : List ℕ) (first : Bool) → i < length ns → x ≡ get_or ns i x
    → (IsTrue first ↔ position (folds_same x) ns ≡ Some i)
    → first_names (take i ns) ++ cond first (x ∷ []) [] ≡ first_names (take (i + 1) ns)
next_name ns i x first lt is found =
    let at : get_or ns i x ≡ x = sym is in
    let itself : folds_same x (get_or ns i x) ≡ true = ap (folds_same x) at ∙ folds_itself x in
    let alone : first ≡ not (list_any (λ n. folds_same n x) (take i ns)) =
    first_at (folds_same x) ns i x first lt itself found
    ∙ (λ j. not (list_any (λ n. folds_swap x n j) (take i ns))) in
    sym
    (ap first_names (take_more ns i x lt ∙ ap (λ y. take i ns ++ y ∷ []) at) ∙ first_names_push (take i ns) x
    ∙ ap (λ xs. first_names (take i ns) ++ xs) (turned x (list_any (λ n. folds_same n x) (take i ns)) first alone))

pub length_first_names : (ns : List (List ℕ)) → length (first_names ns) ≤ length ns
length_first_names [] = omega arith
length_first_names (n ∷ ns) =
    omega (
      arith,
      length_first_names ns,
      length-filter (λ m. not (folds_same n m)) (first_names ns),
      count_by-le-length (λ m. not (folds_same n m)) (first_names ns),
    )
