-- What a disk's refusal is called above it, and its cause. (This project's own.)
use Rattle.std.specs.Prelude.{Result, IsErrOf, IsOk}
use Rattle.nt_bytes.specs.Counts.{Rises}
use Rattle.nt_edge.specs.Disk.{DiskState}
use Rattle.nt_edge.specs.Frames.{GoesFor}
use Rattle.nt_edge.specs.declared.disk.DiskStop.{DiskStop}
use Rattle.nt_edge.specs.declared.disk.DiskStop.TheVariants as disk
use Rattle.hive_commit.specs.declared.stops.CommitStop.{CommitStop}
use Rattle.hive_commit.specs.declared.stops.CommitStop.TheVariants as commit

-- what a commit calls the disk's stop
abbrev pub commit_stop_of : DiskStop → CommitStop
commit_stop_of disk.PowerLost = commit.PowerLost
commit_stop_of disk.Failed = commit.Device
commit_stop_of disk.Memory = commit.Memory

-- A commit on a disk: the record stays, each refusal has its cause, a count that rose in this call, no count rises without
-- one, and the disk is off after a loss of power and on after every other answer.
abbrev pub IsCommitOn : {T : Type 0} → DiskState → DiskState → Result T CommitStop → Type 0
IsCommitOn old new result = GoesFor old new (IsErrOf result commit.PowerLost) (IsErrOf result commit.Device) (IsErrOf result commit.Memory)

-- and there is no other refusal: where no count rose, the commit is done
pub record EndsCommit {T : Type 0} (old new : DiskState) (result : Result T CommitStop) : Type 0 where
  pub goes : IsCommitOn old new result
  pub done : (Rises old.cuts new.cuts → ⊥) → (Rises old.faults new.faults → ⊥) → (Rises old.lacks new.lacks → ⊥) → IsOk result
