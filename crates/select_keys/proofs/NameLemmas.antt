-- Which name is that of a set: the front that all have, and three digits.
use Rattle.std.proofs.Common.{◌≡◌, ℕ, suc, ◌+◌, ◌<◌, ◌≤◌, Bool, true, false, List, [], ◌∷◌, ◌++◌, length, take, drop, get_or, ◌-◌, Option, None, refl, sym, ap, ◌∙◌, arith, length-append, add-one}
use Rattle.std.specs.Prelude.{◌/◌, ◌%◌, ◌&&◌, ◌==◌, codes}
use Rattle.std.proofs.lemmas.List.{take-append-drop}
use Rattle.std.proofs.Math.Seq.{drop-cons}
use Rattle.std.proofs.Math.ListN.{drop_of_length-le}
use Rattle.std.proofs.lemmas.Bool.{and_left, and_right}
use Rattle.std.proofs.lemmas.Bool.Decides.{nat_tests}
use Rattle.nt_bytes.specs.Folding.{folded_unit, folds_same}
use Rattle.start_model.specs.Sets.{set_name}
use Rattle.select_keys.specs.Names.{IsNumberOf, AreDigitsOf}

-- names of different lengths do not fold to one
folds_same-differ : (a b : List ℕ) → (length a ≡ length b → ⊥) → folds_same a b ≡ false
folds_same-differ [] [] h = absurd (h refl)
folds_same-differ [] (y ∷ ys) h = refl
folds_same-differ (x ∷ xs) [] h = refl
folds_same-differ (x ∷ xs) (y ∷ ys) h =
    and_right (folded_unit x == folded_unit y) _ (folds_same-differ xs ys (λ e. h (ap suc e)))

and_assoc : (a b c : Bool) → (a && (b && c)) ≡ ((a && b) && c)
and_assoc true b c = refl
and_assoc false b c = refl

-- names with ends of one length fold to one where the fronts do and the ends do
folds_same-append : (p q s t : List ℕ) → length s ≡ length t
    → folds_same (p ++ s) (q ++ t) ≡ (folds_same p q && folds_same s t)
folds_same-append [] [] s t e = refl
folds_same-append [] (y ∷ ys) s t e = folds_same-differ s (y ∷ (ys ++ t)) (λ same. omega (arith, length-append ys t))
folds_same-append (x ∷ xs) [] s t e = folds_same-differ (x ∷ (xs ++ s)) t (λ same. omega (arith, length-append xs s))
folds_same-append (x ∷ xs) (y ∷ ys) s t e =
    let front : Bool = folded_unit x == folded_unit y in
    ap (λ b. front && b) (folds_same-append xs ys s t e) ∙ and_assoc front (folds_same xs ys) (folds_same s t)

-- only a digit folds to that digit
digit_folded : (d unit : ℕ) → d < 10 → (folded_unit (48 + d) == folded_unit unit) ≡ (48 + d == unit)
digit_folded d unit low = grind (arith, nat_tests)

all_three : (a b c : Bool) → (a && (b && (c && true))) ≡ (a && b && c)
all_three true true true = refl
all_three true true false = refl
all_three true false c = refl
all_three false b c = refl

digits_folded : (n hundreds tens ones : ℕ) → n ≤ 999
    → folds_same ((48 + n / 100) ∷ (48 + n / 10 % 10) ∷ (48 + n % 10) ∷ []) (hundreds ∷ tens ∷ ones ∷ [])
    ≡ (48 + n / 100 == hundreds && 48 + n / 10 % 10 == tens && 48 + n % 10 == ones)
digits_folded n hundreds tens ones high =
    ap (λ b. b && (folded_unit (48 + n / 10 % 10) == folded_unit tens &&
    (folded_unit (48 + n % 10) == folded_unit ones && true))) (digit_folded (n / 100) hundreds (omega arith))
    ∙ ap (λ b. (48 + n / 100 == hundreds) && (b && (folded_unit (48 + n % 10) == folded_unit ones && true)))
    (digit_folded (n / 10 % 10) tens (omega arith))
    ∙ ap (λ b. (48 + n / 100 == hundreds) && ((48 + n / 10 % 10 == tens) && (b && true)))
    (digit_folded (n % 10) ones (omega arith))
    ∙ all_three (48 + n / 100 == hundreds) (48 + n / 10 % 10 == tens) (48 + n % 10 == ones)

-- a set's name folds as this one where the fronts do and the digits do
set_name-folded : (n : ℕ) (front : List ℕ) (hundreds tens ones : ℕ) → n ≤ 999
    → folds_same (set_name n) (front ++ hundreds ∷ tens ∷ ones ∷ [])
    ≡ (folds_same (codes "ControlSet") front &&
    (48 + n / 100 == hundreds && 48 + n / 10 % 10 == tens && 48 + n % 10 == ones))
set_name-folded n front hundreds tens ones high =
    folds_same-append (codes "ControlSet") front ((48 + n / 100) ∷ (48 + n / 10 % 10) ∷ (48 + n % 10) ∷ [])
    (hundreds ∷ tens ∷ ones ∷ []) refl
    ∙ ap (λ b. folds_same (codes "ControlSet") front && b) (digits_folded n hundreds tens ones high)

drop_more : (xs : List ℕ) (i d : ℕ) → i < length xs → drop i xs ≡ get_or xs i d ∷ drop (i + 1) xs
drop_more xs i d h = rw (add-one, drop-cons xs i d)

-- a name of three units or more: its front, and the last three
parted_at : (name : List ℕ) (k : ℕ) → k + 3 ≡ length name
    → name ≡ take k name ++ get_or name k 0 ∷ get_or name (k + 1) 0 ∷ get_or name (k + 1 + 1) 0 ∷ []
parted_at name k e =
    sym (take-append-drop k name)
    ∙ ap (λ end. take k name ++ end)
    (drop_more name k 0 (omega arith) ∙ ap (λ end. get_or name k 0 ∷ end)
    (drop_more name (k + 1) 0 (omega arith) ∙ ap (λ end. get_or name (k + 1) 0 ∷ end)
    (drop_more name (k + 1 + 1) 0 (omega arith)
    ∙ ap (λ end. get_or name (k + 1 + 1) 0 ∷ end) (drop_of_length-le name (omega arith)))))

pub parted : (name : List ℕ) → 3 ≤ length name
    → name ≡ take (length name - 3) name ++ get_or name (length name - 3) 0 ∷ get_or name (length name - 2) 0
    ∷ get_or name (length name - 1) 0 ∷ []
parted name long =
    let k : ℕ = length name - 3 in
    let second : k + 1 ≡ length name - 2 = omega arith in
    let third : k + 1 + 1 ≡ length name - 1 = omega arith in
    parted_at name k (omega arith)
    ∙ ap (λ i. take k name ++ get_or name k 0 ∷ get_or name i 0 ∷ get_or name (k + 1 + 1) 0 ∷ []) second
    ∙ ap (λ i. take k name ++ get_or name k 0 ∷ get_or name (length name - 2) 0 ∷ get_or name i 0 ∷ []) third

-- a name with another front is no set's
pub other_front : (name front : List ℕ) (hundreds tens ones : ℕ) → name ≡ front ++ hundreds ∷ tens ∷ ones ∷ []
    → folds_same (codes "ControlSet") front ≡ false → IsNumberOf name None
other_front name front hundreds tens ones is other = record {
  within = tt;
  named = λ n low high. ap (folds_same (set_name n)) is ∙ set_name-folded n front hundreds tens ones high
      ∙ and_left _ _ other;
}

-- a name with the front of all sets is that of the digits' set
pub by_digits : (name front : List ℕ) (hundreds tens ones : ℕ) (number : Option ℕ)
    → name ≡ front ++ hundreds ∷ tens ∷ ones ∷ [] → folds_same (codes "ControlSet") front ≡ true
    → AreDigitsOf hundreds tens ones number → IsNumberOf name number
by_digits name front hundreds tens ones number is same digits = record {
  within = digits.within;
  named = λ n low high.
      ap (folds_same (set_name n)) is ∙ set_name-folded n front hundreds tens ones high
      ∙ ap (λ b. b && (48 + n / 100 == hundreds && 48 + n / 10 % 10 == tens && 48 + n % 10 == ones)) same
      ∙ digits.digits n low high;
}
