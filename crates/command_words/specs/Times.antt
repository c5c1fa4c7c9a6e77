-- Which moment does a text stand for? (the forms of ISO 8601 in UTC; Microsoft's FILETIME: steps of 100 ns since 1601-01-01T00:00:00 UTC)
--
-- A day, `YYYY-MM-DD`, or a day and one of `Thh:mmZ`, `Thh:mm:ssZ`, `Thh:mm:ss.fZ`, f one to seven digits. What is left out is zero. The year has
-- four digits and is at least 1601, or a `+` and five digits and is at least 10000.
use Rattle.std.specs.Prelude.{ℕ, ◌+◌, ◌-◌, ◌*◌, ◌/◌, ◌%◌, ◌^◌, Bool, ◌==◌, ◌&&◌, ◌||◌, not, List, [], ◌∷◌, Option, Some, None, codes}
use Rattle.std.specs.Prelude.{if◌then◌else◌, length, take, drop, sum, slice_index, nat_le, bytes_eq, option_and_then, option_map}
use Rattle.std.specs.Str.Parse.{digits_value}
use Rattle.nt_bytes.specs.Text.{is_digits}
use Rattle.command_words.specs.Words.{Text}

-- ---- the calendar

-- every fourth year is a leap year, but of the years of a century only every fourth
abbrev pub is_leap : ℕ → Bool
is_leap year = (year % 4 == 0) && (not (year % 100 == 0) || (year % 400 == 0))

-- the days of the months, of a leap year or of another
abbrev pub month_lengths : Bool → List ℕ
month_lengths leap = 31 ∷ (if leap then 29 else 28) ∷ 31 ∷ 30 ∷ 31 ∷ 30 ∷ 31 ∷ 31 ∷ 30 ∷ 31 ∷ 30 ∷ 31 ∷ []

-- the days from the beginning of 1601 to that of a year from 1601 on: 365 each, and one for each leap year before it
abbrev pub days_before_year : ℕ → ℕ
days_before_year year = let k = year - 1601 in 365 * k + k / 4 - k / 100 + k / 400

-- the days of a year before a month
abbrev pub days_before_month : ℕ → ℕ → ℕ
days_before_month year month = sum (take (month - 1) (month_lengths (is_leap year)))

-- the month is one of the year, and the day one of the month
abbrev pub is_date : ℕ → ℕ → ℕ → Bool
is_date year month day =
    (nat_le 1 month && nat_le month 12) && (nat_le 1 day && nat_le day (slice_index (month_lengths (is_leap year)) (month - 1)))

-- which day a date is, counted from 1601-01-01, where the calendar has it
abbrev pub day_of : ℕ → ℕ → ℕ → Option ℕ
day_of year month day =
    if is_date year month day then Some (days_before_year year + days_before_month year month + (day - 1)) else None

-- ---- the text

-- a number at the beginning of a text, and what follows it
pub record Part : Type 0 where
  pub value : ℕ
  pub rest : Text

-- what follows this character, where it is the first
abbrev pub after : ℕ → Text → Option Text
after c [] = None
after c (first ∷ rest) = if first == c then Some rest else None

-- the number that exactly this many digits at the beginning write
abbrev pub number_first : ℕ → Text → Option Part
number_first digits text =
    if is_digits (take digits text) && (length (take digits text) == digits)
    then Some (record { value = digits_value 10 (take digits text); rest = drop digits text }) else None

-- the number of two digits after this character
abbrev pub two_after : ℕ → Text → Option Part
two_after c text = option_and_then (number_first 2) (after c text)

-- the number, where it is in this range
abbrev pub within : ℕ → ℕ → Part → Option Part
within least greatest part = if nat_le least part.value && nat_le part.value greatest then Some part else None

-- the year, after its `+` or without one
abbrev pub year_by : Text → Option Text → Option Part
year_by text None = option_and_then (within 1601 9999) (number_first 4 text)
year_by text (Some rest) = option_and_then (within 10000 99999) (number_first 5 rest)

abbrev pub year_first : Text → Option Part
year_first text = year_by text (after 43 text)

-- the text is a `Z` alone, which ends a moment
abbrev pub is_end : Text → Bool
is_end text = bytes_eq text (codes "Z")

-- the steps that the digits of a fraction write
abbrev pub steps_of : Text → ℕ
steps_of digits = digits_value 10 digits * 10 ^ (7 - length digits)

-- the steps of a second: one to seven digits, and the end
abbrev pub fraction_in : Text → Option ℕ
fraction_in text =
    let digits = take (length text - 1) text in
    if is_end (drop (length text - 1) text) && (is_digits digits && nat_le (length digits) 7) then Some (steps_of digits) else None

-- the steps of a second after its point, or none where the text ends
abbrev pub point_in : Text → Option ℕ
point_in text = if is_end text then Some 0 else option_and_then fraction_in (after 46 text)

-- the steps of a minute: the second, and its fraction
abbrev pub seconds_by : Part → Option ℕ
seconds_by second = option_map (λ steps. second.value * 10000000 + steps) (point_in second.rest)

-- the steps of a minute after the minute, or none where the text ends
abbrev pub seconds_in : Text → Option ℕ
seconds_in text = if is_end text then Some 0 else option_and_then seconds_by (option_and_then (within 0 59) (two_after 58 text))

-- the steps of an hour
abbrev pub minutes_by : Part → Option ℕ
minutes_by minute = option_map (λ steps. minute.value * 600000000 + steps) (seconds_in minute.rest)

abbrev pub minutes_in : Text → Option ℕ
minutes_in text = option_and_then minutes_by (option_and_then (within 0 59) (two_after 58 text))

-- the steps of a day
abbrev pub hours_by : Part → Option ℕ
hours_by hour = option_map (λ steps. hour.value * 36000000000 + steps) (minutes_in hour.rest)

-- the steps of a day after the day, or none where nothing follows it
abbrev pub clock_in : Text → Option ℕ
clock_in [] = Some 0
clock_in (c ∷ text) = option_and_then hours_by (option_and_then (within 0 23) (two_after 84 (c ∷ text)))

-- the stamp of that step of the day, where 64 bits hold it
abbrev pub stamp_at : ℕ → ℕ → Option ℕ
stamp_at day steps =
    if nat_le (day * 864000000000 + steps) 18446744073709551615 then Some (day * 864000000000 + steps) else None

-- the stamp of a day and of what follows it
abbrev pub stamp_on : Text → ℕ → Option ℕ
stamp_on rest day = option_and_then (stamp_at day) (clock_in rest)

-- the stamp of a year, a month and what follows these
abbrev pub day_by : ℕ → ℕ → Part → Option ℕ
day_by year month day = option_and_then (stamp_on day.rest) (day_of year month day.value)

abbrev pub month_by : ℕ → Part → Option ℕ
month_by year month = option_and_then (day_by year month.value) (two_after 45 month.rest)

abbrev pub year_of : Part → Option ℕ
year_of year = option_and_then (month_by year.value) (two_after 45 year.rest)

-- the stamp of the moment that the text stands for
abbrev pub time_of : Text → Option ℕ
time_of text = option_and_then year_of (year_first text)
