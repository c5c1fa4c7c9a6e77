-- Stamps and the names of types are texts of units.
use Rattle.std.proofs.Common.{◌≡◌, ℕ, zero, suc, ◌+◌, ◌-◌, ◌/◌, ◌%◌, ◌<◌, ◌^◌, Bool, true, false, cond, List, [], ◌∷◌, ◌++◌, refl, arith}
use Rattle.std.specs.Prelude.{codes, slice_index, slice_get, unwrap_or, nat_lt}
use Rattle.std.specs.List.{AllByRecursion, list_all}
use Rattle.std.specs.Int.{w32, to_be_bytes}
use Rattle.std.specs.Fmt.{decimal}
use Rattle.std.proofs.lemmas.Bool.{and_parts}
use Rattle.std.proofs.lemmas.Bool.Decides.{nat_tests}
use Rattle.std.proofs.lemmas.List.Elements.{All-nil, All-cons, All-append}
use Rattle.hex.specs.Hex.{encode_lower}
use Rattle.json_laws.specs.Objects.{AreUnits, is_word}
use Rattle.json_laws.proofs.Values.{is_digit, all_digits}
use Rattle.json_laws.proofs.Units.{word_units, hex_units}
use Rattle.key_text.specs.Dates.{Date, IsDate, is_leap, date_of}
use Rattle.key_text.specs.Kinds.{kind_names, kind_digits, kind_text}
use Rattle.key_text.specs.Months.{month_lengths}
use Rattle.key_text.specs.Stamps.{day_in, second_in, two_digits, year_text, date_text, clock_text, fraction_text, stamp_text}
use Rattle.key_text.proofs.DateLemmas.{date_back}

abbrev small : ℕ → Type 0
small u = u < 2 ^ 16

-- ---- stamps are texts of units

both : (a b : List ℕ) → AreUnits a → AreUnits b → AreUnits (a ++ b)
both a b are_a are_b = All-append small a b are_a are_b

after : (c : ℕ) (text : List ℕ) → c < 2 ^ 16 → AreUnits text → AreUnits (c ∷ text)
after c text lt are = All-cons small c text lt are

two_units : (n : ℕ) → n < 100 → AreUnits (two_digits n)
two_units n lt = after (48 + n / 10) ((48 + n % 10) ∷ []) (omega arith) (after (48 + n % 10) [] (omega arith) (All-nil small))

digit_small : (c : ℕ) → is_digit c ≡ true → c < 2 ^ 16
digit_small c e = grind (arith, nat_tests)

digits_units : (text : List ℕ) → list_all is_digit text ≡ true → AreUnits text
digits_units [] e = All-nil small
digits_units (c ∷ text) e =
    let parts = and_parts (is_digit c) (list_all is_digit text) e in
    after c text (digit_small c parts.0) (digits_units text parts.1)

sign_units : (b : Bool) → AreUnits (cond b (codes "+") [])
sign_units true = word_units (codes "+") refl
sign_units false = All-nil small

year_units : (year : ℕ) → AreUnits (year_text year)
year_units year =
    both (cond (nat_lt 9999 year) (codes "+") []) (decimal year) (sign_units (nat_lt 9999 year))
    (digits_units (decimal year) (all_digits year))

dash : AreUnits (codes "-")
dash = word_units (codes "-") refl

date_units : (date : Date) → date.month < 100 → date.day < 100 → AreUnits (date_text date)
date_units date month day =
    both (year_text date.year ++ codes "-" ++ two_digits date.month ++ codes "-") (two_digits date.day)
    (both (year_text date.year ++ codes "-" ++ two_digits date.month) (codes "-")
    (both (year_text date.year ++ codes "-") (two_digits date.month)
    (both (year_text date.year) (codes "-") (year_units date.year) dash) (two_units date.month month)) dash)
    (two_units date.day day)

-- what a table has at a place, 0 past its end
at : (table : List ℕ) (k : ℕ) → list_all (λ n. nat_lt n 100) table ≡ true → slice_index table k < 100
at [] k all = omega arith
at (n ∷ table) zero all =
    let first = (and_parts (nat_lt n 100) (list_all (λ m. nat_lt m 100) table) all).0 in
    grind (arith, nat_tests)
at (n ∷ table) (suc k) all = at table k (and_parts (nat_lt n 100) (list_all (λ m. nat_lt m 100) table) all).1

month_small : (leap : Bool) (k : ℕ) → slice_index (month_lengths leap) k < 100
month_small true k = at (month_lengths true) k refl
month_small false k = at (month_lengths false) k refl

day_small : (date : Date) → IsDate date → date.day < 100
day_small date is =
    let last = is.last_day in
    let few = month_small (is_leap date.year) (date.month - 1) in
    omega arith

is_date_units : (date : Date) → IsDate date → AreUnits (date_text date)
is_date_units date is =
    let last = is.last_month in
    date_units date (omega arith) (day_small date is)

clock_units : (second : ℕ) → second < 86400 → AreUnits (clock_text second)
clock_units second lt =
    both (two_digits (second / 3600)) (58 ∷ (two_digits (second / 60 % 60) ++ (58 ∷ two_digits (second % 60))))
    (two_units (second / 3600) (omega arith))
    (after 58 (two_digits (second / 60 % 60) ++ (58 ∷ two_digits (second % 60))) (omega arith)
    (both (two_digits (second / 60 % 60)) (58 ∷ two_digits (second % 60)) (two_units (second / 60 % 60) (omega arith))
    (after 58 (two_digits (second % 60)) (omega arith) (two_units (second % 60) (omega arith)))))

fraction_units : (n : ℕ) → n < 10000000 → AreUnits (fraction_text n)
fraction_units n lt =
    both (two_digits (n / 100000)) (two_digits (n / 1000 % 100) ++ (two_digits (n / 10 % 100) ++ ((48 + n % 10) ∷ [])))
    (two_units (n / 100000) (omega arith))
    (both (two_digits (n / 1000 % 100)) (two_digits (n / 10 % 100) ++ ((48 + n % 10) ∷ []))
    (two_units (n / 1000 % 100) (omega arith))
    (both (two_digits (n / 10 % 100)) ((48 + n % 10) ∷ []) (two_units (n / 10 % 100) (omega arith))
    (after (48 + n % 10) [] (omega arith) (All-nil small))))

pub stamp_units : (stamp : ℕ) → AreUnits (stamp_text stamp)
unfolding stamp_text
stamp_units stamp =
    let date = date_of (day_in stamp) in
    let clock = clock_text (second_in stamp) in
    let fraction = fraction_text (stamp % 10000000) in
    let parts = date_text date ++ codes "T" ++ clock ++ codes "." in
    both (parts ++ fraction) (codes "Z")
    (both parts fraction
    (both (date_text date ++ codes "T" ++ clock) (codes ".")
    (both (date_text date ++ codes "T") clock
    (both (date_text date) (codes "T") (is_date_units date (date_back (day_in stamp)).0) (word_units (codes "T") refl))
    (clock_units (second_in stamp) (omega arith))) (word_units (codes ".") refl))
    (fraction_units (stamp % 10000000) (omega arith))) (word_units (codes "Z") refl)

-- ---- types are texts of units

all_words : (names : List (List ℕ)) → list_all is_word names ≡ true → AllByRecursion AreUnits names
all_words [] e = tt
all_words (name ∷ names) e =
    let both_parts = and_parts (is_word name) (list_all is_word names) e in
    (word_units name both_parts.0, all_words names both_parts.1)

among : (names : List (List ℕ)) (k : ℕ) (other : List ℕ) → AllByRecursion AreUnits names → AreUnits other
    → AreUnits (unwrap_or (slice_get names k) other)
among [] k other all is = is
among (name ∷ names) zero other all is = all.0
among (name ∷ names) (suc k) other all is = among names k other all.1 is

pub kind_units : (kind : ℕ) → AreUnits (kind_text kind)
kind_units kind =
    among kind_names kind (kind_digits kind) (all_words kind_names refl)
    (both (codes "0x") (encode_lower (to_be_bytes w32 kind)) (word_units (codes "0x") refl)
    (hex_units (to_be_bytes w32 kind)))
