-- The names of services: what units they have, and that no two fold to one.
use Rattle.std.proofs.Common.{◌≡◌, ℕ, ◌+◌, ◌/◌, ◌%◌, ◌<◌, Bool, true, false, ◌&&◌, ◌==◌, refl, sym, ◌∙◌, arith, eqb-true}
use Rattle.std.specs.Prelude.{nat_lt}
use Rattle.std.specs.List.{list_any}
use Rattle.std.proofs.lemmas.Bool.{and_parts, ne_eqb, lt-ltb}
use Rattle.std.proofs.lemmas.Bool.Decides.{nat_tests}
use Rattle.nt_bytes.specs.Folding.{folded_unit, folds_same}
use Rattle.hive_model.specs.Size.{is_narrow}
use Rattle.nt_bytes.specs.Text.{is_backslash}
use Rattle.generated_hive.specs.Generated.{service_name}

-- ---- digits

digit_plain : (n : ℕ) → (48 + n % 10 == 0x5C) ≡ false
digit_plain n = ne_eqb (48 + n % 10) 0x5C (omega arith)

digit_narrow : (n : ℕ) → nat_lt (48 + n % 10) 256 ≡ true
digit_narrow n = lt-ltb (48 + n % 10) 256 (omega arith)

digit_folds : (d : ℕ) → d < 10 → folded_unit (48 + d) ≡ 48 + d
digit_folds d h = grind (arith, nat_tests)

same_digit : (m n : ℕ) → (folded_unit (48 + m % 10) == folded_unit (48 + n % 10)) ≡ true → m % 10 ≡ n % 10
same_digit m n e =
    let both : 48 + m % 10 ≡ 48 + n % 10 =
    sym (digit_folds (m % 10) (omega arith)) ∙ eqb-true _ _ e ∙ digit_folds (n % 10) (omega arith) in omega arith

-- ---- names

pub name_plain : (i : ℕ) → list_any is_backslash (service_name i) ≡ false
unfolding service_name
name_plain i = rw (
  digit_plain (i / 10000),
  digit_plain (i / 1000),
  digit_plain (i / 100),
  digit_plain (i / 10),
  digit_plain i,
) refl

pub name_narrow : (i : ℕ) → is_narrow (service_name i) ≡ true
unfolding service_name
name_narrow i = rw (
  digit_narrow (i / 10000),
  digit_narrow (i / 1000),
  digit_narrow (i / 100),
  digit_narrow (i / 10),
  digit_narrow i,
) refl

-- numbers are one where all but their last digits are, and those
one_longer : (m n : ℕ) → m / 10 ≡ n / 10 → m % 10 ≡ n % 10 → m ≡ n
one_longer m n front last = omega arith

pub one_number : (m n : ℕ) → m < 100000 → n < 100000 → folds_same (service_name m) (service_name n) ≡ true → m ≡ n
unfolding service_name
one_number m n small low e =
    let same : ℕ → Bool = λ (d : ℕ). folded_unit (48 + m / d % 10) == folded_unit (48 + n / d % 10) in
    let last : Bool = folded_unit (48 + m % 10) == folded_unit (48 + n % 10) in
    let all : (same 10000 && (same 1000 && (same 100 && (same 10 && (last && true))))) ≡ true = e in
    let first = and_parts (same 10000) (same 1000 && (same 100 && (same 10 && (last && true)))) all in
    let second = and_parts (same 1000) (same 100 && (same 10 && (last && true))) first.1 in
    let third = and_parts (same 100) (same 10 && (last && true)) second.1 in
    let fourth = and_parts (same 10) (last && true) third.1 in
    let fifth = and_parts last true fourth.1 in
    let d4 : m / 10000 % 10 ≡ n / 10000 % 10 = same_digit (m / 10000) (n / 10000) first.0 in
    let one4 : m / 10000 ≡ n / 10000 = omega (arith, small, low, d4) in
    let one3 : m / 1000 ≡ n / 1000 =
    one_longer (m / 1000) (n / 1000) (omega (arith, one4)) (same_digit (m / 1000) (n / 1000) second.0) in
    let one2 : m / 100 ≡ n / 100 =
    one_longer (m / 100) (n / 100) (omega (arith, one3)) (same_digit (m / 100) (n / 100) third.0) in
    let one1 : m / 10 ≡ n / 10 =
    one_longer (m / 10) (n / 10) (omega (arith, one2)) (same_digit (m / 10) (n / 10) fourth.0) in
    one_longer m n one1 (same_digit m n fifth.0)

pub other_number : (m n : ℕ) → m < n → n < 100000 → folds_same (service_name n) (service_name m) ≡ false
other_number m n less low = split (folds_same (service_name n) (service_name m)) refl
  where
    split : (r : Bool) → folds_same (service_name n) (service_name m) ≡ r
        → folds_same (service_name n) (service_name m) ≡ false
    split true e = absurd (let one : n ≡ m = one_number n m low (omega arith) e in omega arith)
    split false e = e
