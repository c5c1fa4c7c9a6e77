-- What is a log to a dirty hive, and what is reported of it? (this project's own; the forms of the logs are Windows's)
use Rattle.std.specs.Prelude.{◌==◌, ◌-◌, ℕ, if◌then◌else◌, List, [], ◌∷◌, ◌++◌, length, take, slice_index_or, Option, Some, None, Result, Ok, Err}
use Rattle.nt_bytes.specs.declared.fault.HiveFault.{HiveFault}
use Rattle.hive_model.specs.Base.{Base}
use Rattle.windows_logs.specs.declared.log_parts.base.FileRole.TheVariants as roles
use Rattle.windows_logs.specs.declared.log_parts.fault.LogFault.{LogFault}
use Rattle.windows_logs.specs.declared.log_parts.fault.LogFaultKind.TheVariants.{LogBase}
use Rattle.windows_logs.specs.log_parts.Wide.{wide_base_of}
use Rattle.windows_logs.specs.declared.entry_log.entry.Entry.{Entry}
use Rattle.windows_logs.specs.entry_log.Entries.{IsWhole}
use Rattle.windows_logs.specs.entry_log.Runs.{run_of}
use Rattle.windows_logs.specs.declared.dirt_log.reading.OldReading.{OldReading}
use Rattle.windows_logs.specs.declared.dirt_log.reading.OldReading.TheVariants as old
use Rattle.windows_logs.specs.dirt_log.Dirt.{old_reading_of, IsLong}
use Rattle.log_replay.specs.declared.line.LogName.{LogName}
use Rattle.log_replay.specs.declared.line.ReplayLine.{ReplayLine}
use Rattle.log_replay.specs.declared.line.ReplayLine.TheVariants as lines
use Rattle.log_replay.specs.declared.reading.LogReading.{LogReading}
use Rattle.log_replay.specs.declared.reading.LogReading.TheVariants.{Empty, Broken, New, Old}
use Rattle.log_replay.specs.declared.reading.GivenLog.{GivenLog}

-- by the log's base block: file type 6 is a new log, the others are old ones
abbrev pub based : Result Base HiveFault → List ℕ → Base → ℕ → LogReading
based (Err fault) log hive have = Broken (record { kind = LogBase; at = fault.at })
based (Ok base) log hive have = if base.kind == 6 then New (run_of log) else Old base (old_reading_of log base hive have)

-- a log of whole sectors, to a hive with this base block whose file has that many bytes
unfoldable pub reading_of : List ℕ → Base → ℕ → LogReading
reading_of log hive have =
    if length log == 0 then Empty else based (wide_base_of (take 512 log) roles.Log) log hive have

-- its entries
abbrev pub entries_in : LogReading → List Entry
entries_in Empty = []
entries_in (Broken fault) = []
entries_in (New run) = run.entries
entries_in (Old base reading) = []

-- ---- what is reported of it

abbrev pub fault_line : LogName → LogFault → ReplayLine
fault_line name fault = lines.Fault fault.kind name fault.at

abbrev pub fault_lines : LogName → Option LogFault → List ReplayLine
fault_lines name None = []
fault_lines name (Some fault) = fault_line name fault ∷ []

-- how many entries a run has, with the numbers of the first and the last
abbrev pub run_line : LogName → List Entry → ReplayLine
run_line name [] = lines.NoEntries name
run_line name (first ∷ more) = lines.Entries name (length (first ∷ more)) first.number (slice_index_or (first ∷ more) (length (first ∷ more) - 1) first).number

abbrev pub old_line : LogName → OldReading → ReplayLine
old_line name (old.Broken fault) = fault_line name fault
old_line name (old.OtherStamp number) = lines.OtherStamp name number
old_line name (old.OtherNumber number) = lines.OtherNumber name number
old_line name (old.Whole number sectors) = lines.OldLog name number sectors

abbrev pub reading_lines : LogName → LogReading → List ReplayLine
reading_lines name Empty = lines.EmptyLog name ∷ []
reading_lines name (Broken fault) = fault_line name fault ∷ []
reading_lines name (New run) = run_line name run.entries ∷ fault_lines name run.fault
reading_lines name (Old base reading) = old_line name reading ∷ []

-- of all logs, in their order
abbrev pub readings_lines : List GivenLog → List ReplayLine
readings_lines [] = []
readings_lines (log ∷ logs) = reading_lines log.name log.reading ++ readings_lines logs

-- ---- what holds of it

-- the entries are whole
abbrev pub AreWhole : List ℕ → List Entry → Type 0
AreWhole log [] = Unit {0}
AreWhole log (entry ∷ entries) = IsWhole log entry × AreWhole log entries

abbrev pub IsLongOld : List ℕ → Base → OldReading → Type 0
IsLongOld log base (old.Broken fault) = Unit {0}
IsLongOld log base (old.OtherStamp number) = Unit {0}
IsLongOld log base (old.OtherNumber number) = Unit {0}
IsLongOld log base (old.Whole number sectors) = IsLong log base.size

abbrev pub IsWholeAs : List ℕ → LogReading → Type 0
IsWholeAs log Empty = Unit {0}
IsWholeAs log (Broken fault) = Unit {0}
IsWholeAs log (New run) = AreWhole log run.entries
IsWholeAs log (Old base reading) = IsLongOld log base reading

abbrev pub AreWholeLogs : List GivenLog → Type 0
AreWholeLogs [] = Unit {0}
AreWholeLogs (log ∷ logs) = IsWholeAs log.bytes log.reading × AreWholeLogs logs
