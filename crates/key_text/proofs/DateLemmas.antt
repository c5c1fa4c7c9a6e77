-- The date of a day is one of the calendar, and stands for that day.
use Rattle.std.proofs.Common.{◌≡◌, ◌≢◌, ℕ, suc, ◌+◌, ◌-◌, ◌*◌, ◌/◌, ◌%◌, ◌<◌, ◌≤◌, min, Bool, true, false, cond, eqb, List, [], ◌∷◌, length, take, get_or, sum, refl, arith}
use Rattle.std.specs.Prelude.{nat_lt}
use Rattle.std.proofs.lemmas.Bool.{false≢true}
use Rattle.std.proofs.lemmas.Bool.Decides.{nat_tests}
use Rattle.std.proofs.lemmas.List.Sums.{sum_by-cons}
use Rattle.key_text.specs.Months.{MonthDay, month_day, month_lengths}
use Rattle.key_text.specs.Dates.{YearDay, IsDate, is_leap, days_before_year, day_of, year_day, date_of}

-- ---- months

sum_cons : (n : ℕ) (ns : List ℕ) → sum (n ∷ ns) ≡ n + sum ns
sum_cons n ns = sum_by-cons (λ x. x) n ns

-- the place of a month and a day among lengths, where the first is of this month
record IsAmong (ns : List ℕ) (m d : ℕ) (r : MonthDay) : Type 0 where
  pub from : m ≤ r.month
  pub within : r.month < m + length ns
  pub before : sum (take (r.month - m) ns) + (r.day - 1) ≡ d
  pub first : 1 ≤ r.day
  pub last : r.day ≤ get_or ns (r.month - m) 0

here : (n : ℕ) (ns : List ℕ) (m d : ℕ) → d < n → IsAmong (n ∷ ns) m d (record { month = m; day = d + 1 })
here n ns m d lt =
    let none : m - m ≡ 0 = omega arith in
    record {
      from = omega arith;
      within = omega arith;
      before = rw none (omega arith);
      first = omega arith;
      last = rw none (omega arith);
    }

later : (n : ℕ) (ns : List ℕ) (m d : ℕ) (r : MonthDay) → n ≤ d → IsAmong ns (m + 1) (d - n) r → IsAmong (n ∷ ns) m d r
later n ns m d r le a =
    let least = a.from in
    let next : r.month - m ≡ suc (r.month - (m + 1)) = omega (arith, least) in
    record {
      from = omega (arith, least);
      within = omega (arith, a.within);
      before = rw (next, sum_cons n (take (r.month - (m + 1)) ns)) (omega (arith, a.before));
      first = a.first;
      last = rw next a.last;
    }

by_test : (b : Bool) (n : ℕ) (ns : List ℕ) (m d : ℕ) → nat_lt d n ≡ b
    → (n ≤ d → IsAmong ns (m + 1) (d - n) (month_day ns (m + 1) (d - n)))
    → IsAmong (n ∷ ns) m d (cond b (record { month = m; day = d + 1 }) (month_day ns (m + 1) (d - n)))
by_test true n ns m d e further = here n ns m d (grind (arith, nat_tests))
by_test false n ns m d e further =
    let le : n ≤ d = grind (arith, nat_tests) in
    later n ns m d (month_day ns (m + 1) (d - n)) le (further le)

among : (ns : List ℕ) (m d : ℕ) → d < sum ns → IsAmong ns m d (month_day ns m d)
among [] m d lt = absurd (omega arith)
among (n ∷ ns) m d lt =
    by_test (nat_lt d n) n ns m d refl (λ le. among ns (m + 1) (d - n) (omega (arith, sum_cons n ns)))

-- ---- years

cycles : (a b c e : ℕ) → b ≤ 3 → c ≤ 24 → e ≤ 3
    → days_before_year (1601 + 400 * a + 100 * b + 4 * c + e) ≡ 146097 * a + 36524 * b + 1461 * c + 365 * e
cycles a b c e b3 c24 e3 =
    let k : 1601 + 400 * a + 100 * b + 4 * c + e - 1601 ≡ 400 * a + 100 * b + 4 * c + e = omega arith in
    let fours : (400 * a + 100 * b + 4 * c + e) / 4 ≡ 100 * a + 25 * b + c = omega arith in
    let centuries : (400 * a + 100 * b + 4 * c + e) / 100 ≡ 4 * a + b = omega arith in
    let whole : (400 * a + 100 * b + 4 * c + e) / 400 ≡ a = omega arith in
    rw (k, fours, centuries, whole) (omega arith)

leap_by : (y : ℕ) → y % 4 ≡ 0 → (y % 100 ≡ 0 → y % 400 ≡ 0) → is_leap y ≡ true
leap_by y four hundred = by_hundred (eqb (y % 100) 0) (grind (arith, nat_tests)) refl
  where
    by_hundred : (b : Bool) → eqb (y % 4) 0 ≡ true → eqb (y % 100) 0 ≡ b → is_leap y ≡ true
    by_hundred true f e =
        let all : eqb (y % 400) 0 ≡ true = (let h : y % 100 ≡ 0 = grind (arith, nat_tests) in
        let z = hundred h in grind (arith, nat_tests)) in
        rw (f, e, all) refl
    by_hundred false f e = rw (f, e) refl

leap_end : (a b c : ℕ) → b ≤ 3 → c ≤ 24 → (c ≡ 24 → b ≡ 3) → is_leap (1601 + 400 * a + 100 * b + 4 * c + 3) ≡ true
leap_end a b c b3 c24 last =
    leap_by (1601 + 400 * a + 100 * b + 4 * c + 3) (omega arith) (λ h. omega arith)

-- the year of a day, in parts
record IsIn (day : ℕ) (y : YearDay) : Type 0 where
  pub from : 1601 ≤ y.year
  pub back : days_before_year y.year + y.day ≡ day
  pub most : y.day ≤ 365
  pub long : y.day ≡ 365 → is_leap y.year ≡ true

by_parts : (day a cycle b in_century c in_four e rest : ℕ) → day ≡ 146097 * a + cycle → cycle < 146097 → b ≤ 3
    → cycle ≡ 36524 * b + in_century → in_century ≤ 36524 → (in_century ≡ 36524 → b ≡ 3)
    → in_century ≡ 1461 * c + in_four → in_four < 1461 → e ≤ 3 → in_four ≡ 365 * e + rest → rest ≤ 365
    → (rest ≡ 365 → e ≡ 3)
    → IsIn day (record { year = 1601 + 400 * a + 100 * b + 4 * c + e; day = rest })
by_parts day a cycle b in_century c in_four e rest is small b3 century short full four_years in_small e3 one most last =
    let c24 : c ≤ 24 = omega arith in
    record {
      from = omega arith;
      back = rw (cycles a b c e b3 c24 e3) (omega arith);
      most = most;
      long = λ h.
          let e_is : e ≡ 3 = last h in
          let whole : c ≡ 24 → b ≡ 3 = λ g. full (omega arith) in
          rw e_is (leap_end a b c b3 c24 whole);
    }

year_in : (day : ℕ) → IsIn day (year_day day)
year_in day =
    by_parts day (day / 146097) (day % 146097) (min 3 (day % 146097 / 36524))
    (day % 146097 - 36524 * min 3 (day % 146097 / 36524))
    ((day % 146097 - 36524 * min 3 (day % 146097 / 36524)) / 1461)
    ((day % 146097 - 36524 * min 3 (day % 146097 / 36524)) % 1461)
    (min 3 ((day % 146097 - 36524 * min 3 (day % 146097 / 36524)) % 1461 / 365))
    ((day % 146097 - 36524 * min 3 (day % 146097 / 36524)) % 1461
    - 365 * min 3 ((day % 146097 - 36524 * min 3 (day % 146097 / 36524)) % 1461 / 365))
    (omega arith) (omega arith) (omega arith) (omega arith) (omega arith) (λ h. omega arith)
    (omega arith) (omega arith) (omega arith) (omega arith) (omega arith) (λ h. omega arith)

-- ---- dates

fits : (leap : Bool) (d : ℕ) → d ≤ 365 → (d ≡ 365 → leap ≡ true) → d < sum (month_lengths leap)
fits true d most long = let all : sum (month_lengths true) ≡ 366 = refl in omega arith
fits false d most long =
    let short : d ≢ 365 = λ e. absurd (false≢true (long e)) in
    let all : sum (month_lengths false) ≡ 365 = refl in
    omega arith

pub date_back : (day : ℕ) → IsDate (date_of day) × (day_of (date_of day) ≡ day)
unfolding date_of
date_back day =
    let y = year_in day in
    let leap = is_leap (year_day day).year in
    let lt : (year_day day).day < sum (month_lengths leap) = fits leap (year_day day).day y.most y.long in
    let m = among (month_lengths leap) 1 (year_day day).day lt in (
      record {
        from = y.from;
        first_month = m.from;
        last_month = omega (arith, m.within);
        first_day = m.first;
        last_day = m.last;
      },
      omega (arith, y.back, m.before),
    )
