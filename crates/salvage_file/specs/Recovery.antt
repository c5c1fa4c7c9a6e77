-- What is a dirty hive recovered as by its log? The rule is that of hive_model's `Recovery`, for bins data of up to 268,431,360 bytes.
--
-- The log has the form of the logs of Windows NT to 8 (dirt_log), but its stamp is not compared, and both its numbers are the first
-- number of the hive.
use Rattle.std.specs.Prelude.{ℕ, ◌+◌, ◌-◌, ◌==◌, if◌then◌else◌, List, [], ◌∷◌, ◌++◌, length, replicate, Result, Ok, Err}
use Rattle.nt_bytes.specs.declared.fault.HiveFault.{HiveFault}
use Rattle.nt_bytes.specs.declared.fault.HiveFaultKind.{HiveFaultKind}
use Rattle.nt_bytes.specs.declared.fault.HiveFaultKind.TheVariants as kinds
use Rattle.hive_model.specs.Base.{Base, fields_of}
use Rattle.windows_logs.specs.declared.log_parts.fault.LogFaultKind.{LogFaultKind}
use Rattle.windows_logs.specs.declared.log_parts.fault.LogFaultKind.TheVariants as logs
use Rattle.windows_logs.specs.log_parts.Pages.{put_pages}
use Rattle.windows_logs.specs.dirt_log.Dirt.{old_reading_of, old_pages_of}
use Rattle.windows_logs.specs.declared.dirt_log.reading.OldReading.{OldReading}
use Rattle.windows_logs.specs.declared.dirt_log.reading.OldReading.TheVariants.{Broken, OtherStamp, OtherNumber, Whole}
use Rattle.salvage_file.specs.declared.recovery.LogStop.{LogStop}
use Rattle.salvage_file.specs.declared.recovery.RecoveredHive.{RecoveredHive}
use Rattle.salvage_file.specs.Faults.{head_of, base_faults, bins_of}

-- a check of the log that fails, at a byte of it
abbrev pub log_stop : HiveFaultKind → ℕ → LogStop
log_stop kind at = record { kind = kind; at = at }

-- the kind of fault; the last four are those of logs of entries, which have another file type
abbrev pub kind_of : LogFaultKind → HiveFaultKind
kind_of logs.LogBase = kinds.LogBase
kind_of logs.LogSequence = kinds.LogSequence
kind_of logs.LogShort = kinds.LogShort
kind_of logs.LogDirt = kinds.LogDirt
kind_of logs.Size = kinds.Size
kind_of logs.EntrySize = kinds.LogBase
kind_of logs.EntryHash = kinds.LogBase
kind_of logs.EntryPage = kinds.LogBase
kind_of logs.EntryGrow = kinds.LogBase

-- the bins data with the sectors that the log has
abbrev pub recovered_bins : List ℕ → List ℕ → ℕ → List ℕ
recovered_bins file log size =
    bins_of (put_pages (file ++ replicate (4096 + size - length file) 0) (old_pages_of log size)) size

-- the hive beside which the log is read: it has the log's stamp, and the first number alone
abbrev pub beside : Base → Base → Base
beside hive logged = record hive { second = hive.first; stamp = logged.stamp }

-- what a log with this base block makes of a hive's file, as it was read
abbrev pub by_reading : List ℕ → List ℕ → Base → OldReading → Result RecoveredHive LogStop
by_reading file log logged (Broken fault) = Err (log_stop (kind_of fault.kind) fault.at)
by_reading file log logged (OtherStamp number) = Err (log_stop kinds.LogSequence 4)
by_reading file log logged (OtherNumber number) = Err (log_stop kinds.LogSequence 4)
by_reading file log logged (Whole number sectors) =
    Ok (record { base = record logged { kind = 0 }; bins = recovered_bins file log logged.size })

abbrev pub by_logged : List ℕ → Base → List ℕ → Base → Result RecoveredHive LogStop
by_logged file hive log logged = by_reading file log logged (old_reading_of log logged (beside hive logged) (length file))

abbrev pub by_faults : List ℕ → Base → List ℕ → List HiveFault → Result RecoveredHive LogStop
by_faults file hive log [] = by_logged file hive log (fields_of (head_of log))
by_faults file hive log (fault ∷ more) = Err (log_stop kinds.LogBase fault.at)

-- what a log makes of the file of a hive with this base block, both of whole sectors; or its first check that fails
unfoldable pub recovery : List ℕ → Base → List ℕ → Result RecoveredHive LogStop
recovery file hive log =
    if length log == 0 then Err (log_stop kinds.LogAbsent 0) else by_faults file hive log (base_faults (head_of log) 1)
