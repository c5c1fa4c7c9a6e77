-- How is a time stamp written? (Microsoft's FILETIME: steps of 100 ns since 1601-01-01T00:00:00 UTC; the form is ISO 8601)
use Rattle.std.specs.Prelude.{ℕ, ◌+◌, ◌/◌, ◌%◌, nat_lt, if◌then◌else◌, List, [], ◌∷◌, ◌++◌, codes}
use Rattle.std.specs.Fmt.{decimal}
use Rattle.key_text.specs.Dates.{Date, date_of}

-- the days, and the seconds and steps of a day, of a stamp
abbrev pub seconds_of : ℕ → ℕ
seconds_of stamp = stamp / 10000000

abbrev pub day_in : ℕ → ℕ
day_in stamp = seconds_of stamp / 86400

abbrev pub second_in : ℕ → ℕ
second_in stamp = seconds_of stamp % 86400

abbrev digit : ℕ → ℕ
digit d = 48 + d

-- a number below 100 in two digits
abbrev pub two_digits : ℕ → List ℕ
two_digits n = digit (n / 10) ∷ digit (n % 10) ∷ []

-- a year; one above 9999 has five digits and a sign
abbrev pub year_text : ℕ → List ℕ
year_text year = (if nat_lt 9999 year then codes "+" else []) ++ decimal year

-- YYYY-MM-DD
abbrev pub date_text : Date → List ℕ
date_text date = year_text date.year ++ codes "-" ++ two_digits date.month ++ codes "-" ++ two_digits date.day

-- hh:mm:ss, of a second of the day
abbrev pub clock_text : ℕ → List ℕ
clock_text second = two_digits (second / 3600) ++ codes ":" ++ two_digits (second / 60 % 60) ++ codes ":" ++ two_digits (second % 60)

-- a count of steps of 100 ns below a second, in seven digits
abbrev pub fraction_text : ℕ → List ℕ
fraction_text n = two_digits (n / 100000) ++ two_digits (n / 1000 % 100) ++ two_digits (n / 10 % 100) ++ digit (n % 10) ∷ []

-- the moment in UTC
unfoldable pub stamp_text : ℕ → List ℕ
stamp_text stamp =
    date_text (date_of (day_in stamp)) ++ codes "T" ++ clock_text (second_in stamp)
    ++ codes "." ++ fraction_text (stamp % 10000000) ++ codes "Z"
