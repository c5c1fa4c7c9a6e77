-- What are a damaged hive's base block and bins data, and which faults do they have (this project's own)?
--
-- Without a fault of its base block a hive is clean where its two numbers are equal, and else recovered where the log can do that.
-- In every other case the file is taken as it is.
use Rattle.std.specs.Prelude.{ℕ, ◌+◌, ◌==◌, ◌&&◌, ◌||◌, Bool, true, false, nat_lt, not, if◌then◌else◌, List, [], ◌∷◌, ◌++◌, length, Option, Some, None, Result, Ok, Err}
use Rattle.nt_bytes.specs.declared.fault.HiveFault.{HiveFault}
use Rattle.nt_bytes.specs.declared.fault.HiveFaultKind.{HiveFaultKind}
use Rattle.nt_bytes.specs.declared.fault.HiveFaultKind.TheVariants as kinds
use Rattle.hive_model.specs.Base.{Base, fault_at, fields_of}
use Rattle.windows_logs.specs.log_parts.Wide.{is_wide_size}
use Rattle.salvage_file.specs.declared.recovery.LogStop.{LogStop}
use Rattle.salvage_file.specs.declared.recovery.RecoveredHive.{RecoveredHive}
use Rattle.salvage_file.specs.declared.opening.FileState.{FileState}
use Rattle.salvage_file.specs.declared.opening.FileState.TheVariants.{Clean, Recovered, AsIs}
use Rattle.salvage_file.specs.declared.opening.Opened.{Opened}
use Rattle.salvage_file.specs.Faults.{head_of, unless, base_faults, bins_of}
use Rattle.salvage_file.specs.Recovery.{recovery}

-- the file has less bins data than a good size says
abbrev pub is_short : List ℕ → ℕ → Bool
is_short file size = is_wide_size size && nat_lt (length file) (4096 + size)

-- the file as it is, with these faults, and perhaps that it is too short for the log
abbrev pub as_is : List ℕ → Base → FileState → List HiveFault → Bool → Option LogStop → Opened
as_is file base state faults short log = record {
  base = base;
  state = state;
  faults = faults ++ unless (not (short || is_short file base.size)) (fault_at kinds.Size 40);
  log = log;
  bins = bins_of file base.size;
}

-- the fault is that the hive's file is too short
abbrev pub is_size : HiveFaultKind → Bool
is_size kinds.Size = true
is_size _ = false

-- a dirty hive, as its log makes it
abbrev pub dirty_as : List ℕ → Base → Result RecoveredHive LogStop → Opened
dirty_as file base (Ok r) = record { base = r.base; state = Recovered; faults = []; log = None; bins = r.bins }
dirty_as file base (Err stop) = as_is file base AsIs [] (is_size stop.kind) (if is_size stop.kind then None else Some stop)

-- a hive without a fault of its base block
abbrev pub sound_as : List ℕ → Base → List ℕ → Opened
sound_as file base log =
    if base.first == base.second then as_is file base Clean [] false None else dirty_as file base (recovery file base log)

abbrev pub opened_as : List ℕ → Base → List ℕ → List HiveFault → Opened
opened_as file base log [] = sound_as file base log
opened_as file base log (fault ∷ more) = as_is file base AsIs (fault ∷ more) false None

-- the file of a hive with its log, which is empty where there is none; both are whole sectors
unfoldable pub opened : List ℕ → List ℕ → Opened
opened file log = opened_as file (fields_of (head_of file)) log (base_faults (head_of file) 0)
