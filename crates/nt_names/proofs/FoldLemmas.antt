-- When two names fold to one, and where names stand that fold to one.
use Rattle.std.proofs.Common.{◌≡◌, true, ◌&&◌, nat_eq, List, ℕ, [], ◌∷◌, refl, sym, ap, ◌∙◌}
use lib.Pointwise.{pointwise}
use Rattle.std.specs.Cmp.Lexicographic.{texts_ties, nat_list_cmp_total, nat_list_eq_equiv}
use Rattle.std.specs.Ordering.{ordering_reverse, is_eq}
use Rattle.std.specs.declared.cmp.Ordering.{Ordering}
use Rattle.std.specs.declared.cmp.Ordering.TheVariants.{Less, Equal, Greater}
use Rattle.nt_bytes.specs.Folding.{folded, folded_unit, folds_same, folded_order}

pub folded_pointwise : (a b : List ℕ) → pointwise nat_eq (folded a) (folded b) ≡ folds_same a b
folded_pointwise [] [] = refl
folded_pointwise [] (y ∷ ys) = refl
folded_pointwise (x ∷ xs) [] = refl
folded_pointwise (x ∷ xs) (y ∷ ys) = ap (λ b. nat_eq (folded_unit x) (folded_unit y) && b) (folded_pointwise xs ys)

pub reversed_eq : (r : Ordering) → is_eq (ordering_reverse r) ≡ is_eq r
reversed_eq Less = refl
reversed_eq Equal = refl
reversed_eq Greater = refl

-- two names fold to one where neither stands before the other
pub same_from_order : (q y : List ℕ) → folds_same q y ≡ is_eq (folded_order y q)
same_from_order q y =
    sym (folded_pointwise q y) ∙ texts_ties (folded q) (folded y)
    ∙ ap is_eq (nat_list_cmp_total.antisymm (folded q) (folded y)) ∙ reversed_eq (folded_order y q)

pub alike : (q n : List ℕ) → folds_same q n ≡ true → (y : List ℕ) → folds_same q y ≡ folds_same n y
alike q n h y = sym (folded_pointwise q y)
    ∙ nat_list_eq_equiv.congr (folded q) (folded n) (folded y) (folded_pointwise q n ∙ h) ∙ folded_pointwise n y
