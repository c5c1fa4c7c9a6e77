-- A log that was read as whole has all that it needs.
use Rattle.std.specs.Prelude.{ℕ, List}
use Rattle.windows_logs.specs.dirt_log.Dirt.{IsLong}
use Rattle.windows_logs.specs.declared.dirt_log.reading.OldReading.{OldReading}
use Rattle.windows_logs.specs.declared.dirt_log.reading.OldReading.TheVariants.{Broken, OtherStamp, OtherNumber, Whole}

-- the log has all that it needs for bins data of this size, where it was read as whole
abbrev pub IsLongAs : List ℕ → ℕ → OldReading → Type 0
IsLongAs log size (Broken fault) = Unit {0}
IsLongAs log size (OtherStamp number) = Unit {0}
IsLongAs log size (OtherNumber number) = Unit {0}
IsLongAs log size (Whole number sectors) = IsLong log size
