-- What does a call of the run leave of its host? (this project's own)
use Rattle.std.specs.Prelude.{Result, Ok, Err}
use Rattle.nt_edge.specs.Host.{HostState, AsksNone, KeepsHost, KeepsFiles, KeepsCounts, CountsWrite}
use Rattle.boot_run.specs.declared.stop.RunStop.{RunStop}
use Rattle.boot_run.specs.declared.stop.RunStop.TheVariants as stops

-- a write fault was counted where the run was given up for one, and no other fault ever
abbrev pub CountsStop : {T : Type 0} → Result T RunStop → HostState → HostState → Type 0
CountsStop (Ok x) old new = KeepsCounts old new
CountsStop (Err stops.Write) old new = CountsWrite old new
CountsStop (Err stops.Memory) old new = KeepsCounts old new

-- the host shows what it reported, its files are as they were, none was asked for, and its counts rose only with their own fault
pub record LeavesHost {T : Type 0} (result : Result T RunStop) (old new : HostState) : Type 0 where
  pub keeps : KeepsHost old new
  pub files : KeepsFiles old new
  pub unasked : AsksNone old new
  pub counts : CountsStop result old new

-- the host shows what it reported, its files are as they were, none was asked for, and no fault was counted
pub record StillHost (old new : HostState) : Type 0 where
  pub keeps : KeepsHost old new
  pub files : KeepsFiles old new
  pub unasked : AsksNone old new
  pub counts : KeepsCounts old new
