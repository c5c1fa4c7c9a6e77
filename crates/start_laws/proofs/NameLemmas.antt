-- Names of sets differ beyond the case of letters, and from `Select`.
use Rattle.std.proofs.Common.{◌≡◌, ℕ, ◌+◌, ◌/◌, ◌%◌, ◌<◌, ◌≤◌, Bool, true, false, ◌&&◌, ◌==◌, List, [], ◌∷◌, refl, sym, ◌∙◌, arith, eq-eqb, eqb-true}
use Rattle.std.specs.Prelude.{codes}
use Rattle.std.proofs.lemmas.Bool.{false≢true, and_from}
use Rattle.std.proofs.lemmas.Bool.Decides.{nat_tests}
use Rattle.nt_bytes.specs.Folding.{folded_unit, folds_same}
use Rattle.start_model.specs.Sets.{set_name}

pub and_left : (a b : Bool) → (a && b) ≡ true → a ≡ true
and_left true b h = refl
and_left false b h = absurd (false≢true h)

pub and_right : (a b : Bool) → (a && b) ≡ true → b ≡ true
and_right true b h = h
and_right false b h = absurd (false≢true h)

pub folds_itself : (a : List ℕ) → folds_same a a ≡ true
folds_itself [] = refl
folds_itself (x ∷ xs) = and_from (folded_unit x == folded_unit x) (folds_same xs xs) (eq-eqb _ _ refl) (folds_itself xs)

-- two names that one name folds to fold to one another
pub fold_alike : (a c b : List ℕ) → folds_same a b ≡ true → folds_same c b ≡ true → folds_same a c ≡ true
fold_alike [] [] b h g = refl
fold_alike [] (z ∷ zs) [] h g = absurd (false≢true g)
fold_alike [] (z ∷ zs) (y ∷ ys) h g = absurd (false≢true h)
fold_alike (x ∷ xs) [] [] h g = absurd (false≢true h)
fold_alike (x ∷ xs) [] (y ∷ ys) h g = absurd (false≢true g)
fold_alike (x ∷ xs) (z ∷ zs) [] h g = absurd (false≢true h)
fold_alike (x ∷ xs) (z ∷ zs) (y ∷ ys) h g =
    let p : folded_unit x ≡ folded_unit y = eqb-true _ _ (and_left _ (folds_same xs ys) h) in
    let q : folded_unit z ≡ folded_unit y = eqb-true _ _ (and_left _ (folds_same zs ys) g) in
    and_from _ (folds_same xs zs) (eq-eqb _ _ (p ∙ sym q))
    (fold_alike xs zs ys (and_right (folded_unit x == folded_unit y) _ h)
    (and_right (folded_unit z == folded_unit y) _ g))

-- where they do not, no name folds to both
pub apart : (a c b : List ℕ) → folds_same a c ≡ false → folds_same c b ≡ true → folds_same a b ≡ false
apart a c b h g = split (folds_same a b) refl
  where
    split : (r : Bool) → folds_same a b ≡ r → folds_same a b ≡ false
    split true e = absurd (false≢true (sym h ∙ fold_alike a c b e g))
    split false e = e

-- ---- names of sets

digit_folds : (d : ℕ) → d < 10 → folded_unit (48 + d) ≡ 48 + d
digit_folds d h = grind (arith, nat_tests)

same_digit : (c d : ℕ) → c < 10 → d < 10 → (folded_unit (48 + c) == folded_unit (48 + d)) ≡ true → c ≡ d
same_digit c d h g e =
    let both : 48 + c ≡ 48 + d = sym (digit_folds c h) ∙ eqb-true _ _ e ∙ digit_folds d g in omega arith

number_is : (n m : ℕ) → n / 100 ≡ m / 100 → n / 10 % 10 ≡ m / 10 % 10 → n % 10 ≡ m % 10 → n ≡ m
number_is n m a b c = omega arith

-- names of sets that fold alike have one number
pub one_number : (n m : ℕ) → n ≤ 999 → m ≤ 999 → folds_same (set_name n) (set_name m) ≡ true → n ≡ m
one_number n m h g e =
    let first : Bool = folded_unit (48 + n / 100) == folded_unit (48 + m / 100) in
    let second : Bool = folded_unit (48 + n / 10 % 10) == folded_unit (48 + m / 10 % 10) in
    let third : Bool = folded_unit (48 + n % 10) == folded_unit (48 + m % 10) in
    let all : (first && (second && (third && true))) ≡ true = e in
    let rest : (second && (third && true)) ≡ true = and_right first (second && (third && true)) all in
    number_is n m
    (same_digit (n / 100) (m / 100) (omega arith) (omega arith) (and_left first (second && (third && true)) all))
    (same_digit (n / 10 % 10) (m / 10 % 10) (omega arith) (omega arith) (and_left second (third && true) rest))
    (same_digit (n % 10) (m % 10) (omega arith) (omega arith)
    (and_left third true (and_right second (third && true) rest)))

pub other_number : (n m : ℕ) → n ≤ 999 → m ≤ 999 → (n ≡ m → ⊥) → folds_same (set_name n) (set_name m) ≡ false
other_number n m h g ne = split (folds_same (set_name n) (set_name m)) refl
  where
    split : (r : Bool) → folds_same (set_name n) (set_name m) ≡ r → folds_same (set_name n) (set_name m) ≡ false
    split true e = absurd (ne (one_number n m h g e))
    split false e = e

pub select_is_no_set : (n : ℕ) → folds_same (codes "Select") (set_name n) ≡ false
select_is_no_set n = refl

pub no_set_is_select : (n : ℕ) → folds_same (set_name n) (codes "Select") ≡ false
no_set_is_select n = refl
