-- Months and days have two digits.
use Rattle.std.proofs.Common.{◌≡◌, ℕ, ◌+◌, ◌-◌, ◌<◌, ◌≤◌, Bool, true, false, cond, List, [], ◌∷◌, length, refl, arith}
use Rattle.std.specs.Prelude.{nat_lt}
use Rattle.std.specs.List.{list_all}
use Rattle.std.proofs.lemmas.Bool.{and_parts}
use Rattle.std.proofs.lemmas.Bool.Decides.{nat_tests}
use Rattle.key_text.specs.Months.{MonthDay, month_day, month_lengths}

abbrev first_or : Bool → ℕ → ℕ → MonthDay → MonthDay
first_or b month day later = cond b (record { month = month; day = day + 1 }) later

day_by : (b : Bool) (n m d : ℕ) (later : MonthDay) → nat_lt d n ≡ b → n < 99
    → (nat_lt d n ≡ false → later.day < 100) → (first_or b m d later).day < 100
day_by true n m d later e short else = grind (arith, nat_tests)
day_by false n m d later e short else = else e

abbrev total : List ℕ → ℕ
total [] = 0
total (n ∷ ns) = n + total ns

short_day : (ns : List ℕ) (m d : ℕ) → list_all (λ n. nat_lt n 99) ns ≡ true → d < total ns + 98
    → (month_day ns m d).day < 100
short_day [] m d e lt = omega arith
short_day (n ∷ ns) m d e lt =
    let both = and_parts (nat_lt n 99) (list_all (λ k. nat_lt k 99) ns) e in
    let short : n < 99 = grind (arith, nat_tests, both.0) in
    day_by (nat_lt d n) n m d (month_day ns (m + 1) (d - n)) refl short
    (λ no. short_day ns (m + 1) (d - n) both.1 (grind (arith, nat_tests)))

month_by : (b : Bool) (m d most : ℕ) (later : MonthDay) → m ≤ most → later.month ≤ most
    → (first_or b m d later).month ≤ most
month_by true m d most later le then = le
month_by false m d most later le then = then

few_months : (ns : List ℕ) (m d : ℕ) → (month_day ns m d).month ≤ m + length ns
few_months [] m d = omega arith
few_months (n ∷ ns) m d =
    let further = few_months ns (m + 1) (d - n) in
    month_by (nat_lt d n) m d (m + length (n ∷ ns)) (month_day ns (m + 1) (d - n)) (omega arith) (omega arith)

pub two_digit_day : (leap : Bool) (d : ℕ) → d ≤ 365 → (month_day (month_lengths leap) 1 d).day < 100
two_digit_day true d le = short_day (month_lengths true) 1 d refl (omega arith)
two_digit_day false d le = short_day (month_lengths false) 1 d refl (omega arith)

pub two_digit_month : (leap : Bool) (d : ℕ) → (month_day (month_lengths leap) 1 d).month < 100
two_digit_month leap d = let few = few_months (month_lengths leap) 1 d in omega arith
