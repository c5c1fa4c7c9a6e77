-- What a call leaves of the host, and which of its faults it had. This project's own.
use Rattle.std.specs.Prelude.{◌≡◌, ◌⊎◌, ◌≤◌, ◌+◌, ℕ, zero, suc, true, min, List, [], Option, Some, None, Result, Ok, Err, IfErr}
use Rattle.nt_edge.specs.Host.{HostState, KeepsHost, KeepsFiles, KeepsCounts, Counts, IsUnsaid}
use Rattle.nt_edge.specs.declared.host.HostStop.{HostStop}
use Rattle.nt_edge.specs.declared.host.HostStop.TheVariants.{Read, Write, Memory as NoMemory}
use Rattle.command_parts.specs.declared.command_parts.status.Status.{Status}
use Rattle.command_parts.specs.declared.command_parts.status.Status.TheVariants.{ReadFault, WriteFault, Memory}
use Rattle.command_parts.specs.declared.command_parts.refusal.Refusal.{Refusal}
use Rattle.command_parts.specs.declared.command_parts.refusal.Refusal.TheVariants.{Usage}
use Rattle.command_parts.specs.declared.command_parts.refusal.Obstacle.{Obstacle}
use Rattle.command_parts.specs.declared.command_parts.refusal.Obstacle.TheVariants.{Refused, Stopped}
use Rattle.nt_edge.specs.Disk.{DiskState}
use Rattle.command_parts.specs.declared.command_parts.inputs.HiveFiles.{HiveFiles}

-- the status of a call that the host stopped
abbrev pub stopped_as : HostStop → Status
stopped_as Read = ReadFault
stopped_as Write = WriteFault
stopped_as NoMemory = Memory

-- which stop of the environment a status says, if any
abbrev pub stop_in : Status → Option HostStop
stop_in ReadFault = Some Read
stop_in WriteFault = Some Write
stop_in Memory = Some NoMemory
stop_in status = None

-- a fault of the environment rose its own count, and nothing else rose any
abbrev pub CountsBy : Option HostStop → HostState → HostState → Type 0
CountsBy None old new = KeepsCounts old new
CountsBy (Some stop) old new = Counts old new stop

-- the status is allowed what was printed from the old to the new, and a fault is that of the host
pub record Leaves (ends : Status → List ℕ → List ℕ → Type 0) (status : Status) (old new : HostState) : Type 0 where
  pub keeps : KeepsHost old new
  pub counts : CountsBy (stop_in status) old new
  pub said : old.tells ≡ true → ends status old.said new.said

-- ---- a search of the files

-- how many names these are
abbrev pub named : Option (List ℕ) → ℕ
named None = 0
named (Some name) = 1

-- a count after that many more, up to its end
abbrev pub more : ℕ → ℕ → ℕ
more zero count = count
more (suc n) count = min (more n count + 1) 18446744073709551615

-- at most that many files were asked for, and at least that many
pub record AsksSome (least most : ℕ) (old new : ℕ) : Type 0 where
  pub asked : ℕ
  pub not_less : least ≤ asked
  pub not_more : asked ≤ most
  pub gets : new ≡ more asked old

-- how many of that many files were asked for where the environment stopped: at a read fault one of them, while something was
-- said all of them
abbrev pub AsksStopped : HostStop → ℕ → ℕ → ℕ → Type 0
AsksStopped Read n old new = AsksSome 1 n old new
AsksStopped Write n old new = new ≡ more n old
AsksStopped NoMemory n old new = AsksSome 0 n old new

-- all of that many files were asked for, unless the environment stopped
abbrev pub AsksUntil : {A : Type 0} → ℕ → Result A Obstacle → ℕ → ℕ → Type 0
AsksUntil n (Ok a) old new = new ≡ more n old
AsksUntil n (Err (Refused r)) old new = new ≡ more n old
AsksUntil n (Err (Stopped stop)) old new = AsksStopped stop n old new

abbrev pub AsksBy : ℕ → Option HostStop → ℕ → ℕ → Type 0
AsksBy n None old new = new ≡ more n old
AsksBy n (Some stop) old new = AsksStopped stop n old new

-- a search answers this, unless the environment stopped
abbrev pub Gives : {A : Type 0} → Result A Refusal → Result A Obstacle → Type 0
Gives wanted (Ok a) = wanted ≡ Ok a
Gives wanted (Err (Refused r)) = wanted ≡ Err r
Gives wanted (Err (Stopped stop)) = Unit {0}

-- one that asks nothing of the host answers this, unless there was no memory
abbrev pub Reads : {A : Type 0} → Result A Refusal → Result A Obstacle → Type 0
Reads wanted (Ok a) = wanted ≡ Ok a
Reads wanted (Err (Refused r)) = wanted ≡ Err r
Reads wanted (Err (Stopped stop)) = stop ≡ NoMemory

-- bad usage is the answer, or there was no memory
abbrev pub IsBadUsage : {A : Type 0} → Result A Obstacle → Type 0
IsBadUsage result = (result ≡ Err (Refused Usage)) ⊎ (result ≡ Err (Stopped NoMemory))

-- a stop had its cause, and no other answer had one
abbrev pub CountsObstacle : {A : Type 0} → Result A Obstacle → HostState → HostState → Type 0
CountsObstacle (Ok a) old new = KeepsCounts old new
CountsObstacle (Err (Refused r)) old new = KeepsCounts old new
CountsObstacle (Err (Stopped stop)) old new = Counts old new stop

-- a search of the files, which says nothing and changes none
pub record Looks {A : Type 0} (wanted : Result A Refusal) (result : Result A Obstacle) (old new : HostState) : Type 0 where
  pub keeps : KeepsHost old new
  pub files : KeepsFiles old new
  pub unsaid : IsUnsaid old new
  pub found : old.tells ≡ true → Gives wanted result
  pub counts : CountsObstacle result old new
  pub unwritten : IfErr result (λ obstacle. obstacle ≡ Stopped Write → ⊥)

-- the disk where a command was stopped: no more files than these were placed and taken, and no stop was ordered
pub record IsPartDone (files : HiveFiles) (most : ℕ) (disk : DiskState) : Type 0 where
  pub placed : disk.history.placings ≤ 1 + named files.log
  pub taken : disk.history.takings ≤ most
  pub unordered : disk.history.armings ≡ []
  pub uncut : disk.history.cut_calls ≡ 0
