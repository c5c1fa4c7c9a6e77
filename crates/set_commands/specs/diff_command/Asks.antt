-- How many files does `diff` ask for? (this project's own)
--
-- The first hive and its log, up to the first obstacle; and after them those of the second hive, exactly where one is named and the first has
-- no fault.
use Rattle.std.specs.Prelude.{◌≡◌, ◌⊎◌, ◌+◌, ℕ, true, List, Option, Some, None, Result, Ok, Err}
use Rattle.nt_bytes.specs.declared.fault.HiveFault.{HiveFault}
use Rattle.nt_edge.specs.Host.{Files, HostState}
use Rattle.nt_edge.specs.declared.host.HostStop.TheVariants.{Read, Write, Memory}
use Rattle.hive_model.specs.Load.{Loads, LoadFault}
use Rattle.start_model.specs.Possible.{Woken}
use Rattle.command_words.specs.Words.{DiffAsked}
use Rattle.command_parts.specs.declared.command_parts.inputs.HiveFiles.{HiveFiles}
use Rattle.command_parts.specs.declared.command_parts.refusal.Refusal.{Refusal}
use Rattle.command_parts.specs.declared.command_parts.refusal.Obstacle.{Obstacle}
use Rattle.command_parts.specs.declared.command_parts.refusal.Obstacle.TheVariants.{Refused, Stopped}
use Rattle.command_parts.specs.declared.command_parts.status.Status.{Status}
use Rattle.command_parts.specs.declared.command_parts.status.Status.TheVariants as statuses
use Rattle.command_parts.specs.command_parts.Inputs.{hive_in, asks_hive}
use Rattle.command_parts.specs.command_parts.Leaves.{AsksBy, AsksUntil, stop_in}
use Rattle.command_parts.specs.command_parts.Placed.{image_in}
use Rattle.set_commands.specs.declared.diff_command.command.Finding.{Finding}

-- The files of the first hive are asked for; where it has no fault, that many more. Where the environment stopped before that is known, the
-- first ones alone.
abbrev pub AsksOn : HiveFiles → ℕ → ℕ → (ℕ → Type 0) → Type 0 → Type 0
AsksOn files before more asks stopped =
    ((fault : HiveFault) × (LoadFault (image_in files) fault) × asks before)
    ⊎ (((placed : Woken) × (Loads (image_in files) placed.state placed.dirty) × asks (before + more)) ⊎ (stopped × asks before))

-- the same where a file may be absent: nothing after it is asked for
abbrev pub AsksIn : Result HiveFiles Refusal → ℕ → ℕ → (ℕ → Type 0) → Type 0 → Type 0
AsksIn (Err why) before more asks stopped = asks before
AsksIn (Ok files) before more asks stopped = AsksOn files before more asks stopped

-- those of the second hive, up to the first obstacle
abbrev pub asks_with : Files → Option (List ℕ) → Option (List ℕ) → ℕ
asks_with files None log = 0
asks_with files (Some name) log = asks_hive files name log

-- of a command line
abbrev pub AsksDiffAs : DiffAsked → Files → (ℕ → Type 0) → Type 0 → Type 0
AsksDiffAs asked files asks stopped =
    AsksIn (hive_in files asked.hive asked.log) (asks_hive files asked.hive asked.log) (asks_with files asked.with asked.with_log) asks
    stopped

-- the host counts them, up to the stop that the status says
abbrev pub AsksDiff : DiffAsked → Status → HostState → HostState → Type 0
AsksDiff asked status old new =
    old.tells ≡ true → AsksDiffAs asked old.files (λ n. AsksBy n (stop_in status) old.gets new.gets)
    ((status ≡ statuses.Memory) ⊎ (status ≡ statuses.ReadFault))

-- ---- a search

-- the environment stopped it: there was no memory, or a file could not be read
abbrev pub IsHalted : Result Finding Obstacle → Type 0
IsHalted (Ok f) = ⊥
IsHalted (Err (Refused why)) = ⊥
IsHalted (Err (Stopped Read)) = Unit {0}
IsHalted (Err (Stopped Write)) = ⊥
IsHalted (Err (Stopped Memory)) = Unit {0}

-- for the second hive, up to the first obstacle or stop
abbrev pub AsksWith : DiffAsked → Result Finding Obstacle → HostState → HostState → Type 0
AsksWith asked result old new =
    old.tells ≡ true → AsksUntil (asks_with old.files asked.with asked.with_log) result old.gets new.gets

-- after the first hive's files were got
abbrev pub AsksAfter : HiveFiles → DiffAsked → Result Finding Obstacle → HostState → HostState → Type 0
AsksAfter files asked result old new =
    old.tells ≡ true → AsksOn files 0 (asks_with old.files asked.with asked.with_log) (λ n. AsksUntil n result old.gets new.gets) (IsHalted result)

-- from the beginning
abbrev pub AsksSearch : DiffAsked → Result Finding Obstacle → HostState → HostState → Type 0
AsksSearch asked result old new =
    old.tells ≡ true → AsksDiffAs asked old.files (λ n. AsksUntil n result old.gets new.gets) (IsHalted result)
