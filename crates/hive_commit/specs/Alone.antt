-- What a commit and a recovery leave alone. (This project's own.)
use Rattle.std.specs.Prelude.{◌≡◌, ◌<◌, ◌≤◌, ◌+◌, ◌*◌, Bool, true, ℕ, List, length, Result}
use Rattle.nt_bytes.specs.declared.fault.HiveFault.{HiveFault}
use Rattle.hive_model.specs.Base.{Base}
use Rattle.hive_model.specs.Image.{Image}
use Rattle.hive_model.specs.Recovery.{primary_in, log_in}
use Rattle.hive_model.specs.Carries.{HasBase, IsRecoveredAs}
use Rattle.nt_edge.specs.Disk.{DiskState}
use Rattle.nt_edge.specs.Crash.{EachCrash}
use Rattle.hive_log.specs.declared.stops.LoadStop.{LoadStop}
use Rattle.hive_commit.specs.Untouched.{IsUntouched, IsUnwritten}

-- the log is as it was
abbrev pub KeepsLog : Image → Image → Type 0
KeepsLog before after = (n : ℕ) → log_in after n ≡ log_in before n

-- sectors 1 to 7 of the primary, and those after bins data of this size, are as they were
pub record KeepsRest (size : ℕ) (before after : Image) : Type 0 where
  pub head : (n : ℕ) → 0 < n → n < 8 → primary_in after n ≡ primary_in before n
  pub behind : (i : ℕ) → size ≤ 512 * i → primary_in after (8 + i) ≡ primary_in before (8 + i)

-- where the primary was clean, what is held and what is in flight are as they were
abbrev pub KeepsClean : DiskState → DiskState → Type 0
KeepsClean old new = (base : Base) → HasBase old.held base → base.first ≡ base.second → IsUntouched old new

-- a cut keeps what is recovered, the log, and sectors 1 to 7 of the primary with those after what is recovered
pub record KeepsAll (old new : DiskState) : Type 0 where
  pub crash : (base : Base) (bins : List ℕ) → IsRecoveredAs old.held base bins
      → EachCrash new (λ (c : Image). IsRecoveredAs c base bins)
  pub log : EachCrash new (KeepsLog old.held)
  pub rest : (base : Base) (bins : List ℕ) → IsRecoveredAs old.held base bins
      → EachCrash new (KeepsRest (length bins) old.held)

-- What is not written, where the disk reports what it holds: a clean primary and a hive with one of these faults, whatever the
-- answer; and none where a fault is answered, or lack of memory that is not the disk's.
pub record WritesOnlyDirty {T : Type 0} (tells : Bool) (faults : HiveFault → Type 0) (old new : DiskState) (result : Result T LoadStop) : Type 0 where
  pub clean : tells ≡ true → KeepsClean old new
  pub faulty : tells ≡ true → (fault : HiveFault) → faults fault → IsUntouched old new
  pub unwritten : tells ≡ true → IsUnwritten old new result
