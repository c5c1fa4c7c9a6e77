-- Each stamp has a text of its own.
use Rattle.std.proofs.Common.{◌≡◌, ℕ, ◌+◌, ◌-◌, ◌*◌, ◌/◌, ◌%◌, ◌<◌, ◌^◌, Bool, true, false, cond, List, [], ◌∷◌, ◌++◌, length, get_or, refl, sym, ap, ◌∙◌, append_assoc, length-append, arith}
use Rattle.std.specs.Prelude.{nat_lt, codes, slice_index}
use Rattle.std.specs.Fmt.{decimal}
use Rattle.std.proofs.lemmas.Fmt.{decimal_injective, first_decimal}
use Rattle.key_text.specs.Dates.{Date, date_of, day_of}
use Rattle.key_text.specs.Stamps.{day_in, second_in, two_digits, year_text, clock_text, fraction_text, stamp_text}
use Rattle.key_text.proofs.DateLemmas.{date_back}

-- ---- the end, which has 24 bytes

-- what follows the year
abbrev end_text : Date → ℕ → ℕ → List ℕ
end_text date second steps =
    45 ∷ two_digits date.month
    ++ (45 ∷ two_digits date.day ++ (84 ∷ clock_text second ++ (46 ∷ fraction_text steps ++ 90 ∷ [])))

in_parts : (stamp : ℕ)
    → stamp_text stamp ≡ year_text (date_of (day_in stamp)).year
    ++ end_text (date_of (day_in stamp)) (second_in stamp) (stamp % 10000000)
unfolding stamp_text
in_parts stamp = simp append_assoc

split_end : (xs ys t u : List ℕ) → length t ≡ length u → xs ++ t ≡ ys ++ u → (xs ≡ ys) × (t ≡ u)
split_end [] [] t u same e = (refl, e)
split_end [] (y ∷ ys) t u same e = absurd (omega (arith, ap length e, length-append (y ∷ ys) u))
split_end (x ∷ xs) [] t u same e = absurd (omega (arith, ap length e, length-append (x ∷ xs) t))
split_end (x ∷ xs) (y ∷ ys) t u same e =
    let first : x ≡ y = cc in
    let later : xs ++ t ≡ ys ++ u = cc in
    let further = split_end xs ys t u same later in
    (ap (λ (c : ℕ). c ∷ xs) first ∙ ap (λ (l : List ℕ). y ∷ l) further.0, further.1)

-- ---- numbers of two digits and more

two : (m n : ℕ) → 48 + m / 10 ≡ 48 + n / 10 → 48 + m % 10 ≡ 48 + n % 10 → m ≡ n
two m n e f = omega arith

abbrev at : List ℕ → ℕ → ℕ
at t k = slice_index t k

same_ends : (d e : Date) (s r f g : ℕ) → s < 86400 → r < 86400 → f < 10000000 → g < 10000000
    → end_text d s f ≡ end_text e r g
    → (d.month ≡ e.month) × ((d.day ≡ e.day) × ((s ≡ r) × (f ≡ g)))
same_ends d e s r f g s_in r_in f_in g_in same =
    let m = two d.month e.month (ap (λ (t : List ℕ). at t 1) same) (ap (λ (t : List ℕ). at t 2) same) in
    let n = two d.day e.day (ap (λ (t : List ℕ). at t 4) same) (ap (λ (t : List ℕ). at t 5) same) in
    let hours = two (s / 3600) (r / 3600) (ap (λ (t : List ℕ). at t 7) same) (ap (λ (t : List ℕ). at t 8) same) in
    let minutes = two (s / 60 % 60) (r / 60 % 60)
    (ap (λ (t : List ℕ). at t 10) same) (ap (λ (t : List ℕ). at t 11) same) in
    let seconds = two (s % 60) (r % 60) (ap (λ (t : List ℕ). at t 13) same) (ap (λ (t : List ℕ). at t 14) same) in
    let a = two (f / 100000) (g / 100000) (ap (λ (t : List ℕ). at t 16) same) (ap (λ (t : List ℕ). at t 17) same) in
    let b = two (f / 1000 % 100) (g / 1000 % 100)
    (ap (λ (t : List ℕ). at t 18) same) (ap (λ (t : List ℕ). at t 19) same) in
    let c = two (f / 10 % 100) (g / 10 % 100) (ap (λ (t : List ℕ). at t 20) same) (ap (λ (t : List ℕ). at t 21) same) in
    let last : 48 + f % 10 ≡ 48 + g % 10 = ap (λ (t : List ℕ). at t 22) same in
    (m, (n, (in_day s r hours minutes seconds, in_second f g a b c last)))
  where
    in_day : (s r : ℕ) → s / 3600 ≡ r / 3600 → s / 60 % 60 ≡ r / 60 % 60 → s % 60 ≡ r % 60 → s ≡ r
    in_day s r h m z = omega arith

    in_second : (f g : ℕ) → f / 100000 ≡ g / 100000 → f / 1000 % 100 ≡ g / 1000 % 100 → f / 10 % 100 ≡ g / 10 % 100
        → 48 + f % 10 ≡ 48 + g % 10 → f ≡ g
    in_second f g a b c z = omega arith

-- ---- years

no_sign : (y : ℕ) (t : List ℕ) → 0 < y → y < 2 ^ 64 → decimal y ≡ 43 ∷ t → ⊥
no_sign y t some small e =
    let first = first_decimal y some small in
    let is : get_or (decimal y) 0 0 ≡ 43 = ap (λ (l : List ℕ). get_or l 0 0) e in
    absurd (omega arith)

by_sign : (a b : Bool) (y z : ℕ) → 0 < y → 0 < z → y < 2 ^ 64 → z < 2 ^ 64
    → cond a (codes "+") [] ++ decimal y ≡ cond b (codes "+") [] ++ decimal z → y ≡ z
by_sign true true y z some more y_in z_in e = decimal_injective y z y_in z_in cc
by_sign false false y z some more y_in z_in e = decimal_injective y z y_in z_in e
by_sign true false y z some more y_in z_in e = absurd (no_sign z (decimal y) more z_in (sym e))
by_sign false true y z some more y_in z_in e = absurd (no_sign y (decimal z) some y_in e)

same_years : (y z : ℕ) → 0 < y → 0 < z → y < 2 ^ 64 → z < 2 ^ 64 → year_text y ≡ year_text z → y ≡ z
same_years y z = by_sign (nat_lt 9999 y) (nat_lt 9999 z) y z

small_year : (day : ℕ) → day < 2 ^ 63 → (date_of day).year < 2 ^ 64
small_year day small =
    let y = (date_of day).year in
    let back = (date_back day).1 in
    let from = (date_back day).0.from in
    few y day _ _ back small
  where
    few : (y day m d : ℕ) → (365 * (y - 1601) + (y - 1601) / 4 - (y - 1601) / 100 + (y - 1601) / 400) + m + d ≡ day
        → day < 2 ^ 63 → y < 2 ^ 64
    few y day m d e small = omega arith

dates : (d e : Date) → d.year ≡ e.year → d.month ≡ e.month → d.day ≡ e.day → d ≡ e
dates d e y m n = λ i. record { year = y i; month = m i; day = n i }

pub same_stamps : (a b : ℕ) → a < 2 ^ 64 → b < 2 ^ 64 → stamp_text a ≡ stamp_text b → a ≡ b
same_stamps a b a_in b_in e =
    let d = date_of (day_in a) in
    let f = date_of (day_in b) in
    let parts = split_end (year_text d.year) (year_text f.year) (end_text d (second_in a) (a % 10000000))
    (end_text f (second_in b) (b % 10000000)) refl (sym (in_parts a) ∙ e ∙ in_parts b) in
    let end = same_ends d f (second_in a) (second_in b) (a % 10000000) (b % 10000000)
    (omega arith) (omega arith) (omega arith) (omega arith) parts.1 in
    let d_from = (date_back (day_in a)).0.from in
    let f_from = (date_back (day_in b)).0.from in
    let year = same_years d.year f.year (omega arith) (omega arith) (small_year (day_in a) (omega arith))
    (small_year (day_in b) (omega arith)) parts.0 in
    let date = dates d f year end.0 end.1.0 in
    let day : day_in a ≡ day_in b = sym (date_back (day_in a)).1 ∙ ap day_of date ∙ (date_back (day_in b)).1 in
    join a b day end.1.1.0 end.1.1.1
  where
    join : (a b : ℕ) → a / 10000000 / 86400 ≡ b / 10000000 / 86400 → a / 10000000 % 86400 ≡ b / 10000000 % 86400
        → a % 10000000 ≡ b % 10000000 → a ≡ b
    join a b day second steps = omega arith
