-- Which date has a day, counted from 1601-01-01? (the Gregorian calendar, ISO 8601)
use Rattle.std.specs.Prelude.{◌≤◌, ℕ, ◌+◌, ◌-◌, ◌*◌, ◌/◌, ◌%◌, Bool, ◌==◌, ◌&&◌, ◌||◌, not, min, sum, take, slice_index}
use Rattle.key_text.specs.Months.{month_lengths, MonthDay, month_day}

pub record Date : Type 0 where
  pub year : ℕ
  pub month : ℕ
  pub day : ℕ

-- every fourth year is a leap year, but of the years of a century only every fourth
abbrev pub is_leap : ℕ → Bool
is_leap year = (year % 4 == 0) && (not (year % 100 == 0) || (year % 400 == 0))

-- the days from the beginning of 1601 to that of a year from 1601 on: 365 each, and one for each leap year before it
abbrev pub days_before_year : ℕ → ℕ
days_before_year year = let k = year - 1601 in 365 * k + k / 4 - k / 100 + k / 400

-- the days of a year before a month
abbrev pub days_before_month : ℕ → ℕ → ℕ
days_before_month year month = sum (take (month - 1) (month_lengths (is_leap year)))

-- which day a date is, counted from 1601-01-01
abbrev pub day_of : Date → ℕ
day_of date = days_before_year date.year + days_before_month date.year date.month + (date.day - 1)

-- a year, and a day of it counted from 0
pub record YearDay : Type 0 where
  pub year : ℕ
  pub day : ℕ

-- the year in which a day stands: of the cycle of 400 years, 146097 days, the century of 36524 days, the four years of
-- 1461 days and the year of 365 days; the last century and the last of four years are a day longer
abbrev pub year_day : ℕ → YearDay
year_day day =
    let cycle = day % 146097 in
    let century = min 3 (cycle / 36524) in
    let in_century = cycle - 36524 * century in
    let in_four = in_century % 1461 in
    let one = min 3 (in_four / 365) in
    record { year = 1601 + 400 * (day / 146097) + 100 * century + 4 * (in_century / 1461) + one; day = in_four - 365 * one }

-- the month and the day of it
abbrev pub month_in : YearDay → MonthDay
month_in y = month_day (month_lengths (is_leap y.year)) 1 y.day

-- the date of a day
unfoldable pub date_of : ℕ → Date
date_of day = record {
  year = (year_day day).year;
  month = (month_in (year_day day)).month;
  day = (month_in (year_day day)).day;
}

-- the date is one of the calendar
pub record IsDate (date : Date) : Type 0 where
  pub from : 1601 ≤ date.year
  pub first_month : 1 ≤ date.month
  pub last_month : date.month ≤ 12
  pub first_day : 1 ≤ date.day
  pub last_day : date.day ≤ slice_index (month_lengths (is_leap date.year)) (date.month - 1)
