-- What commands read, or the first obstacle. This project's own.
--
-- A system's path without a reading is bad usage; a file is absent; boot.ini is too long or has too many entries.
use Rattle.std.specs.Prelude.{◌≡◌, ◌+◌, ℕ, true, nat_lt, List, [], length, Option, Some, None, Result, Ok, Err, if◌then◌else◌}
use Rattle.nt_bytes.specs.Reading.{◌>>=◌}
use Rattle.nt_edge.specs.Host.{Files, HostState}
use Rattle.boot_ini.specs.declared.arc_path.arc.Arc.{Arc}
use Rattle.boot_ini.specs.declared.arc_path.arc.ArcFault.{ArcFault}
use Rattle.boot_ini.specs.declared.boot_ini.ini.BootIni.{BootIni}
use Rattle.boot_ini.specs.boot_ini.Ini.{ini_of, entries_in}
use Rattle.command_parts.specs.declared.command_parts.refusal.Refusal.{Refusal}
use Rattle.command_parts.specs.declared.command_parts.refusal.Refusal.TheVariants.{Usage, NoFile, IniTooLong, IniTooManyEntries}
use Rattle.command_parts.specs.declared.command_parts.refusal.Obstacle.{Obstacle}
use Rattle.command_parts.specs.declared.command_parts.inputs.HiveFiles.{HiveFiles}
use Rattle.command_parts.specs.declared.command_parts.status.Status.{Status}
use Rattle.command_parts.specs.command_parts.Leaves.{AsksUntil, AsksBy, named, stop_in}

-- ---- the steps

abbrev pub system_in : Result Arc ArcFault → Result Arc Refusal
system_in (Ok system) = Ok system
system_in (Err fault) = Err Usage

abbrev pub file_in : List ℕ → Option (List ℕ) → Result (List ℕ) Refusal
file_in name None = Err (NoFile name)
file_in name (Some bytes) = Ok bytes

-- a file that the words may leave out is empty where they do
abbrev pub bytes_in : Files → Option (List ℕ) → Result (List ℕ) Refusal
bytes_in files None = Ok []
bytes_in files (Some name) = file_in name (files name)

abbrev pub ini_in : List ℕ → List ℕ → Result BootIni Refusal
ini_in text system =
    if nat_lt 65536 (length text) then Err IniTooLong
    else if nat_lt 64 (length (entries_in text)) then Err IniTooManyEntries
    else Ok (ini_of text system)

-- the log, where the command line names one
abbrev pub log_in : Files → Option (List ℕ) → Result (Option (List ℕ)) Refusal
log_in files None = Ok None
log_in files (Some name) = do
  bytes ← file_in name (files name)
  Ok (Some bytes)

-- ---- in their order

-- the hive and its log
abbrev pub hive_in : Files → List ℕ → Option (List ℕ) → Result HiveFiles Refusal
hive_in files hive log = do
  primary ← file_in hive (files hive)
  written ← log_in files log
  Ok (record { primary = primary; log = written })

-- ---- how many files are asked for, up to the first obstacle

abbrev pub behind_step : {A : Type 0} → Result A Refusal → (A → ℕ) → ℕ
behind_step (Ok a) next = next a
behind_step (Err r) next = 0

-- for the hive and its log
abbrev pub asks_hive : Files → List ℕ → Option (List ℕ) → ℕ
asks_hive files hive log = 1 + behind_step (file_in hive (files hive)) (λ primary. named log)

-- a search for the hive and its log asked for these files, each once and in their order, up to the first obstacle or stop
abbrev pub AsksHive : {A : Type 0} → List ℕ → Option (List ℕ) → Result A Obstacle → HostState → HostState → Type 0
AsksHive hive log result old new = old.tells ≡ true → AsksUntil (asks_hive old.files hive log) result old.gets new.gets

-- that many files were asked for, up to the stop that the status says
abbrev pub AsksSoMany : (Files → ℕ) → Status → HostState → HostState → Type 0
AsksSoMany count status old new = old.tells ≡ true → AsksBy (count old.files) (stop_in status) old.gets new.gets
