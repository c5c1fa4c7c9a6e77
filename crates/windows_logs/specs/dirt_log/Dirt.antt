-- The log of Windows NT to 8: whether it belongs to a hive and is whole, and what it has (regf format 1.3 and 1.5, "Old format
-- of the log"; the order of the checks is this project's own).
--
-- Sector 0 is its base block. From sector 1 on stand `DIRT` and a bit for each sector of the bins data; then the sectors
-- whose bit is on, in rising order. (The bitmap is that of hive_model's `Recovery`.)
use Rattle.std.specs.Prelude.{◌≤◌, ◌+◌, ◌-◌, ◌*◌, ◌/◌, ◌==◌, ◌&&◌, ◌||◌, Bool, true, nat_eq, nat_le, nat_lt, if◌then◌else◌, ℕ, zero, suc, List, [], ◌∷◌, length, drop, codes, Option, Some, None}
use Rattle.std.specs.List.{starts_with}
use Rattle.hive_model.specs.Base.{Base}
use Rattle.hive_model.specs.Recovery.{sector, bit, rank, first_dirty}
use Rattle.windows_logs.specs.log_parts.Pages.{Page}
use Rattle.windows_logs.specs.declared.log_parts.fault.LogFault.{LogFault}
use Rattle.windows_logs.specs.declared.log_parts.fault.LogFaultKind.{LogFaultKind}
use Rattle.windows_logs.specs.declared.log_parts.fault.LogFaultKind.TheVariants.{LogSequence, LogShort, LogDirt, Size}
use Rattle.windows_logs.specs.declared.dirt_log.reading.OldReading.{OldReading}
use Rattle.windows_logs.specs.declared.dirt_log.reading.OldReading.TheVariants.{Broken, OtherStamp, OtherNumber, Whole}

-- the bits of a log: whether it has sector i of the bins data
abbrev pub bits_of : List ℕ → ℕ → Bool
bits_of log = bit (drop 516 log)

-- each of the first sectors of the bins data is the log's, or among that many that the hive's file has
abbrev pub has_rest : (ℕ → Bool) → ℕ → ℕ → Bool
has_rest bits have zero = true
has_rest bits have (suc i) = has_rest bits have i && (bits i || nat_lt i have)

-- a fault of this kind at this byte
abbrev pub fault_at : LogFaultKind → ℕ → LogFault
fault_at kind at = record { kind = kind; at = at }

-- the fault of the first check that fails
abbrev pub first_failing : List (Bool × LogFault) → Option LogFault
first_failing [] = None
first_failing (check ∷ checks) = if check.0 then first_failing checks else Some check.1

-- how many sectors the bitmap for bins data of this size and those before it take, and the sectors whose bit is on
abbrev pub needed : List ℕ → ℕ → ℕ
needed log size = first_dirty size + rank (bits_of log) (size / 512)

-- What a log with bins data of this size has to be, beside a hive's file of that many bytes. A log that is too short lacks first
-- the sector at its end.
abbrev pub dirt_checks : List ℕ → ℕ → ℕ → List (Bool × LogFault)
dirt_checks log size have =
    (nat_le 1024 (length log), fault_at LogShort (length log))
    ∷ (starts_with nat_eq (drop 512 log) (codes "DIRT"), fault_at LogDirt 512)
    ∷ (nat_le (512 * first_dirty size) (length log), fault_at LogShort (length log))
    ∷ (nat_le (512 * needed log size) (length log), fault_at LogShort (length log))
    ∷ (has_rest (bits_of log) (have / 512 - 8) (size / 512), fault_at Size 40)
    ∷ []

-- a log that belongs to the hive is whole, or has a fault
abbrev pub whole_or : Option LogFault → List ℕ → Base → OldReading
whole_or None log logged = Whole logged.first (rank (bits_of log) (logged.size / 512))
whole_or (Some fault) log logged = Broken fault

-- What a log with this base block is to the hive of the other one, whose file has that many bytes: its two numbers are one, it
-- has the hive's stamp, and its number is one of the hive's two; and then it is whole.
unfoldable pub old_reading_of : List ℕ → Base → Base → ℕ → OldReading
old_reading_of log logged hive have =
    if logged.first == logged.second
    then (if logged.stamp == hive.stamp
    then (if (logged.first == hive.first) || (logged.first == hive.second)
    then whole_or (first_failing (dirt_checks log logged.size have)) log logged
    else OtherNumber logged.first)
    else OtherStamp logged.first)
    else Broken (fault_at LogSequence 4)

-- n sectors from number i on, those whose bit is on as pages: the next one of them is in this sector of the log
unfoldable pub marked_pages : (ℕ → Bool) → List ℕ → ℕ → ℕ → ℕ → List Page
marked_pages bits log next i zero = []
marked_pages bits log next i (suc n) =
    if bits i
    then record { place = 512 * i; bytes = sector log next } ∷ marked_pages bits log (next + 1) (i + 1) n
    else marked_pages bits log next (i + 1) n

-- the pages of a log with bins data of this size
abbrev pub old_pages_of : List ℕ → ℕ → List Page
old_pages_of log size = marked_pages (bits_of log) log (first_dirty size) 0 (size / 512)

-- it has all that it needs
pub record IsLong (log : List ℕ) (size : ℕ) : Type 0 where
  pub front : 1024 ≤ length log
  pub needs : 512 * needed log size ≤ length log
