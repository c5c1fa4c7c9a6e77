-- The text of each stamp is read as that stamp.
use Rattle.std.proofs.Common.{◌≡◌, ◌≤◌, ◌<◌, ◌^◌, ℕ, zero, suc, ◌+◌, ◌-◌, ◌*◌, ◌/◌, ◌%◌, Bool, true, false, ◌&&◌, cond, List, [], ◌∷◌, ◌++◌, Option, Some, None, refl, ap, ◌∙◌, append_assoc, arith}
use Rattle.std.specs.Prelude.{◌==◌, nat_lt, nat_le, option_and_then, option_map, codes, slice_index}
use Rattle.std.specs.List.{AllByRecursion}
use Rattle.std.specs.Char.{is_ascii_digit, digit_value}
use Rattle.std.specs.Fmt.{decimal}
use Rattle.std.specs.Str.Parse.{digits_value}
use Rattle.std.proofs.lemmas.Bool.{agree_below_at, eqb-true, ne_eqb, le-leb, ltb-true, ltb-false, cond-true, and_from}
use Rattle.std.proofs.lemmas.Fmt.{decimal_step, decimal_digit}
use Rattle.command_words.specs.Times as times
use Rattle.command_words.specs.Times.{Part, after, number_first, within, year_by, year_first, fraction_in, point_in, seconds_by, seconds_in, minutes_by, minutes_in, hours_by, clock_in, stamp_at, stamp_on, day_by, month_by, year_of, time_of}
use Rattle.key_text.specs.Dates.{Date, IsDate, date_of, day_of}
use Rattle.key_text.specs.Stamps.{day_in, second_in, two_digits, year_text, clock_text, fraction_text, stamp_text}
use Rattle.key_text.proofs.DateLemmas.{date_back}
use Rattle.services_laws.specs.Timed.{TextsAreTimes}

-- ---- digits

is_char : (k : ℕ) → k < 10 → is_ascii_digit (48 + k) ≡ true
is_char k small = agree_below_at (λ n. is_ascii_digit (48 + n)) (λ n. true) 10 k refl small

worth : (k : ℕ) → k < 10 → digit_value (48 + k) ≡ k
worth k small =
    eqb-true (digit_value (48 + k)) k (agree_below_at (λ n. digit_value (48 + n) == n) (λ n. true) 10 k refl small)

-- a number and what follows it
abbrev part : ℕ → List ℕ → Part
part value rest = record { value = value; rest = rest }

abbrev read : ℕ → List ℕ → Option Part
read value rest = Some (part value rest)

-- ---- two digits

two_read : (n : ℕ) (rest : List ℕ) → n < 100 → number_first 2 (two_digits n ++ rest) ≡ read n rest
two_read n rest small =
    let a = is_char (n / 10) (omega (arith, small)) in
    let b = is_char (n % 10) (omega (arith, small)) in
    let v = worth (n / 10) (omega (arith, small)) in
    let w = worth (n % 10) (omega (arith, small)) in
    let value : digits_value 10 (two_digits n) ≡ n = omega (arith, v, w) in
    (λ i. cond ((true && (a i && (b i && true))) && true) (read (digits_value 10 (two_digits n)) rest) None)
    ∙ ap (λ (m : ℕ). read m rest) value

-- ---- the year

four : (y : ℕ) → 1000 ≤ y → y < 10000
    → decimal y ≡ (48 + y / 10 / 10 / 10) ∷ (48 + y / 10 / 10 % 10) ∷ (48 + y / 10 % 10) ∷ (48 + y % 10) ∷ []
four y low high =
    decimal_step y (omega (arith, low)) (omega (arith, high))
    ∙ ap (λ (t : List ℕ). t ++ (48 + y % 10) ∷ [])
    (decimal_step (y / 10) (omega (arith, low)) (omega (arith, high))
    ∙ ap (λ (t : List ℕ). t ++ (48 + y / 10 % 10) ∷ [])
    (decimal_step (y / 10 / 10) (omega (arith, low)) (omega (arith, high))
    ∙ ap (λ (t : List ℕ). t ++ (48 + y / 10 / 10 % 10) ∷ []) (decimal_digit (y / 10 / 10 / 10) (omega (arith, high)))))

five : (y : ℕ) → 10000 ≤ y → y < 100000
    → decimal y ≡ (48 + y / 10 / 10 / 10 / 10) ∷ (48 + y / 10 / 10 / 10 % 10) ∷ (48 + y / 10 / 10 % 10) ∷ (48 + y / 10 % 10) ∷ (48 + y % 10) ∷ []
five y low high =
    decimal_step y (omega (arith, low)) (omega (arith, high))
    ∙ ap (λ (t : List ℕ). t ++ (48 + y % 10) ∷ []) (four (y / 10) (omega (arith, low)) (omega (arith, high)))

four_read : (a b c d : ℕ) (rest : List ℕ) → a < 10 → b < 10 → c < 10 → d < 10
    → number_first 4 ((48 + a) ∷ (48 + b) ∷ (48 + c) ∷ (48 + d) ∷ rest) ≡ read (1000 * a + 100 * b + 10 * c + d) rest
four_read a b c d rest a_in b_in c_in d_in =
    let p = is_char a a_in in
    let q = is_char b b_in in
    let r = is_char c c_in in
    let s = is_char d d_in in
    let digits : List ℕ = (48 + a) ∷ (48 + b) ∷ (48 + c) ∷ (48 + d) ∷ [] in
    let value : digits_value 10 digits ≡ 1000 * a + 100 * b + 10 * c + d =
    omega (arith, worth a a_in, worth b b_in, worth c c_in, worth d d_in) in
    (λ i. cond ((true && (p i && (q i && (r i && (s i && true))))) && true) (read (digits_value 10 digits) rest) None)
    ∙ ap (λ (m : ℕ). read m rest) value

five_read : (a b c d e : ℕ) (rest : List ℕ) → a < 10 → b < 10 → c < 10 → d < 10 → e < 10
    → number_first 5 ((48 + a) ∷ (48 + b) ∷ (48 + c) ∷ (48 + d) ∷ (48 + e) ∷ rest)
    ≡ read (10000 * a + 1000 * b + 100 * c + 10 * d + e) rest
five_read a b c d e rest a_in b_in c_in d_in e_in =
    let p = is_char a a_in in
    let q = is_char b b_in in
    let r = is_char c c_in in
    let s = is_char d d_in in
    let t = is_char e e_in in
    let digits : List ℕ = (48 + a) ∷ (48 + b) ∷ (48 + c) ∷ (48 + d) ∷ (48 + e) ∷ [] in
    let value : digits_value 10 digits ≡ 10000 * a + 1000 * b + 100 * c + 10 * d + e =
    omega (arith, worth a a_in, worth b b_in, worth c c_in, worth d d_in, worth e e_in) in
    (λ i. cond ((true && (p i && (q i && (r i && (s i && (t i && true)))))) && true) (read (digits_value 10 digits) rest) None)
    ∙ ap (λ (m : ℕ). read m rest) value

-- a number in its range
in_range : (least greatest value : ℕ) (rest : List ℕ) → least ≤ value → value ≤ greatest
    → within least greatest (part value rest) ≡ read value rest
in_range least greatest value rest low high =
    cond-true (nat_le least value && nat_le value greatest) (read value rest) None
    (and_from (nat_le least value) (nat_le value greatest) (le-leb least value low) (le-leb value greatest high))

year_read : (y : ℕ) (rest : List ℕ) → 1601 ≤ y → y < 100000 → year_first (year_text y ++ rest) ≡ read y rest
year_read y rest low high = by_case (nat_lt 9999 y) refl
  where
    short : y ≤ 9999 → year_first (decimal y ++ rest) ≡ read y rest
    short few =
        let a : ℕ = y / 10 / 10 / 10 in
        let text : List ℕ = (48 + a) ∷ (48 + y / 10 / 10 % 10) ∷ (48 + y / 10 % 10) ∷ (48 + y % 10) ∷ rest in
        let sign : after 43 text ≡ None =
        ap (λ b. cond b (Some ((48 + y / 10 / 10 % 10) ∷ (48 + y / 10 % 10) ∷ (48 + y % 10) ∷ rest)) None)
        (ne_eqb (48 + a) 43 (λ e. absurd (omega (arith, e)))) in
        let number : number_first 4 text ≡ read y rest =
        four_read a (y / 10 / 10 % 10) (y / 10 % 10) (y % 10) rest (omega (arith, few)) (omega arith) (omega arith) (omega arith)
        ∙ ap (λ (m : ℕ). read m rest) (omega (arith, few)) in
        ap (λ (t : List ℕ). year_first (t ++ rest)) (four y (omega (arith, low)) (omega (arith, few)))
        ∙ ap (year_by text) sign ∙ ap (option_and_then (within 1601 9999)) number ∙ in_range 1601 9999 y rest low few

    long : 10000 ≤ y → year_first (43 ∷ (decimal y ++ rest)) ≡ read y rest
    long many =
        let number : number_first 5 (decimal y ++ rest) ≡ read y rest =
        ap (λ (t : List ℕ). number_first 5 (t ++ rest)) (five y many high)
        ∙ five_read (y / 10 / 10 / 10 / 10) (y / 10 / 10 / 10 % 10) (y / 10 / 10 % 10) (y / 10 % 10) (y % 10) rest
        (omega (arith, high)) (omega arith) (omega arith) (omega arith) (omega arith)
        ∙ ap (λ (m : ℕ). read m rest) (omega arith) in
        ap (option_and_then (within 10000 99999)) number ∙ in_range 10000 99999 y rest many (omega (arith, high))

    by_case : (b : Bool) → nat_lt 9999 y ≡ b → year_first ((cond b (codes "+") [] ++ decimal y) ++ rest) ≡ read y rest
    by_case true e = long (omega (arith, ltb-true 9999 y e))
    by_case false e = short (ltb-false 9999 y e)

-- ---- the clock

fraction_read : (f : ℕ) → f < 10000000 → fraction_in (fraction_text f ++ 90 ∷ []) ≡ Some f
fraction_read f small =
    let a = f / 100000 / 10 in
    let b = f / 100000 % 10 in
    let c = f / 1000 % 100 / 10 in
    let d = f / 1000 % 100 % 10 in
    let e = f / 10 % 100 / 10 in
    let g = f / 10 % 100 % 10 in
    let h = f % 10 in
    let p = is_char a (omega (arith, small)) in
    let q = is_char b (omega arith) in
    let r = is_char c (omega arith) in
    let s = is_char d (omega arith) in
    let t = is_char e (omega arith) in
    let u = is_char g (omega arith) in
    let v = is_char h (omega arith) in
    let value : digits_value 10 (fraction_text f) ≡ f =
    omega (
      arith,
      worth a (omega (arith, small)),
      worth b (omega arith),
      worth c (omega arith),
      worth d (omega arith),
      worth e (omega arith),
      worth g (omega arith),
      worth h (omega arith),
    ) in
    let once : digits_value 10 (fraction_text f) * 10 ^ 0 ≡ f = omega (arith, value) in
    (λ i. cond (true && ((true && (p i && (q i && (r i && (s i && (t i && (u i && (v i && true)))))))) && true))
    (Some (digits_value 10 (fraction_text f) * 10 ^ 0)) None)
    ∙ ap (λ (m : ℕ). Some m) once

clock_read : (s f : ℕ) → s < 86400 → f < 10000000
    → clock_in (84 ∷ (clock_text s ++ (46 ∷ (fraction_text f ++ 90 ∷ [])))) ≡ Some (s * 10000000 + f)
clock_read s f s_in f_in =
    let hour = s / 3600 in
    let minute = s / 60 % 60 in
    let second = s % 60 in
    let tail : List ℕ = 46 ∷ (fraction_text f ++ 90 ∷ []) in
    let after_minute : List ℕ = 58 ∷ (two_digits second ++ tail) in
    let after_hour : List ℕ = 58 ∷ (two_digits minute ++ after_minute) in
    let points : point_in tail ≡ Some f = fraction_read f f_in in
    let seconds : seconds_in after_minute ≡ Some (second * 10000000 + f) =
    ap (λ (o : Option Part). option_and_then seconds_by (option_and_then (within 0 59) o)) (two_read second tail (omega arith))
    ∙ ap (option_and_then seconds_by) (in_range 0 59 second tail (omega arith) (omega arith))
    ∙ ap (option_map (λ steps. second * 10000000 + steps)) points in
    let minutes : minutes_in after_hour ≡ Some (minute * 600000000 + (second * 10000000 + f)) =
    ap (λ (o : Option Part). option_and_then minutes_by (option_and_then (within 0 59) o)) (two_read minute after_minute (omega arith))
    ∙ ap (option_and_then minutes_by) (in_range 0 59 minute after_minute (omega arith) (omega arith))
    ∙ ap (option_map (λ steps. minute * 600000000 + steps)) seconds in
    ap (λ (o : Option Part). option_and_then hours_by (option_and_then (within 0 23) o)) (two_read hour after_hour (omega (arith, s_in)))
    ∙ ap (option_and_then hours_by) (in_range 0 23 hour after_hour (omega arith) (omega (arith, s_in)))
    ∙ ap (option_map (λ steps. hour * 36000000000 + steps)) minutes
    ∙ ap (λ (m : ℕ). Some m) (omega arith)

-- ---- the date

is_day : (d : Date) → IsDate d → times.is_date d.year d.month d.day ≡ true
is_day d is =
    and_from (nat_le 1 d.month && nat_le d.month 12) _
    (and_from (nat_le 1 d.month) (nat_le d.month 12) (le-leb 1 d.month is.first_month) (le-leb d.month 12 is.last_month))
    (and_from (nat_le 1 d.day) _ (le-leb 1 d.day is.first_day) (le-leb d.day _ is.last_day))

day_read : (d : Date) → IsDate d → times.day_of d.year d.month d.day ≡ Some (day_of d)
day_read d is = cond-true (times.is_date d.year d.month d.day) (Some (day_of d)) None (is_day d is)

few_years : (y day m d : ℕ) → (365 * (y - 1601) + (y - 1601) / 4 - (y - 1601) / 100 + (y - 1601) / 400) + m + d ≡ day
    → day < 21350399 → y < 100000
few_years y day m d e small = omega arith

all_few : (xs : List ℕ) → AllByRecursion (λ x. x < 100) xs → (k : ℕ) → slice_index xs k < 100
all_few [] h k = omega arith
all_few (x ∷ xs) h zero = h.0
all_few (x ∷ xs) h (suc k) = all_few xs h.1 k

lengths : (leap : Bool) (k : ℕ) → slice_index (times.month_lengths leap) k < 100
lengths true k = all_few (times.month_lengths true)
    (omega arith, (omega arith, (omega arith, (omega arith, (omega arith, (omega arith, (omega arith, (omega arith, (omega arith, (omega arith, (omega arith, (omega arith, tt)))))))))))) k
lengths false k = all_few (times.month_lengths false)
    (omega arith, (omega arith, (omega arith, (omega arith, (omega arith, (omega arith, (omega arith, (omega arith, (omega arith, (omega arith, (omega arith, (omega arith, tt)))))))))))) k

month_few : (d : Date) → IsDate d → (d.month < 100) × (d.day < 100)
month_few d is = (omega (arith, is.last_month), omega (arith, is.last_day, lengths (times.is_leap d.year) (d.month - 1)))

pub texts_are_times : TextsAreTimes
unfolding stamp_text
texts_are_times stamp small =
    let day = day_in stamp in
    let date = date_of day in
    let is = (date_back day).0 in
    let back = (date_back day).1 in
    let few = month_few date is in
    let s = second_in stamp in
    let f = stamp % 10000000 in
    let clock : List ℕ = 84 ∷ (clock_text s ++ (46 ∷ (fraction_text f ++ 90 ∷ []))) in
    let after_month : List ℕ = 45 ∷ (two_digits date.day ++ clock) in
    let after_year : List ℕ = 45 ∷ (two_digits date.month ++ after_month) in
    let whole : stamp_text stamp ≡ year_text date.year ++ after_year = simp append_assoc in
    let steps : ℕ = s * 10000000 + f in
    let sum : day * 864000000000 + steps ≡ stamp = omega arith in
    let stamped : stamp_at day steps ≡ Some stamp =
    cond-true (nat_le (day * 864000000000 + steps) 18446744073709551615) (Some (day * 864000000000 + steps)) None
    (le-leb (day * 864000000000 + steps) 18446744073709551615 (omega (arith, sum, small)))
    ∙ ap (λ (m : ℕ). Some m) sum in
    let on_day : stamp_on clock day ≡ Some stamp =
    ap (option_and_then (stamp_at day)) (clock_read s f (omega arith) (omega arith)) ∙ stamped in
    let by_day : day_by date.year date.month (part date.day clock) ≡ Some stamp =
    ap (option_and_then (stamp_on clock)) (day_read date is ∙ ap (λ (m : ℕ). Some m) back) ∙ on_day in
    let by_month : month_by date.year (part date.month after_month) ≡ Some stamp =
    ap (option_and_then (day_by date.year date.month)) (two_read date.day clock few.1) ∙ by_day in
    let by_year : year_of (part date.year after_year) ≡ Some stamp =
    ap (option_and_then (month_by date.year)) (two_read date.month after_month few.0) ∙ by_month in
    ap time_of whole
    ∙ ap (option_and_then year_of)
    (year_read date.year after_year is.from (few_years date.year day _ _ back (omega (arith, small)))) ∙ by_year
