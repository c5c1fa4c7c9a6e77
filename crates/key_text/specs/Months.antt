-- In which month does a day of the year stand? (the Gregorian calendar)
use Rattle.std.specs.Prelude.{ℕ, ◌+◌, ◌-◌, nat_lt, Bool, if◌then◌else◌, List, [], ◌∷◌}

-- the days of the months, of a leap year or of another
abbrev pub month_lengths : Bool → List ℕ
month_lengths leap = 31 ∷ (if leap then 29 else 28) ∷ 31 ∷ 30 ∷ 31 ∷ 30 ∷ 31 ∷ 31 ∷ 30 ∷ 31 ∷ 30 ∷ 31 ∷ []

-- a month, and a day of it
pub record MonthDay : Type 0 where
  pub month : ℕ
  pub day : ℕ

-- the month in which a day counted from 0 stands, where these are the lengths of this month and of those after it
abbrev pub month_day : List ℕ → ℕ → ℕ → MonthDay
month_day [] month day = record { month = month; day = day + 1 }
month_day (n ∷ ns) month day = if nat_lt day n then record { month = month; day = day + 1 } else month_day ns (month + 1) (day - n)
