-- What does a disk in memory say of the calls that were made? How many there were of each kind.
-- (This project's own.)
use Rattle.std.specs.Prelude.{◌≡◌, ℕ, Bool, true, false, List, min, count_by}
use Rattle.nt_edge.specs.Calls.{Made, ReadAt, Wrote, Synced}
use Rattle.nt_edge.specs.Disk.{next}
use Rattle.nt_edge.specs.declared.disk.DiskCall.{DiskCall}
use Rattle.nt_edge.specs.declared.disk.DiskCall.TheVariants.{Read, Write, Sync}
use Rattle.mem_edge.specs.declared.store.MemDisk.{MemDisk}
use Rattle.mem_edge.specs.State.{calls_of}

-- the call is of this kind
abbrev pub is_of : DiskCall → Made → Bool
is_of Read (ReadAt sector) = true
is_of Write (Wrote write) = true
is_of Sync Synced = true
is_of call made = false

-- how many of the calls are of this kind, up to the end of a count
abbrev pub counted : DiskCall → List Made → ℕ
counted call made = min (count_by (is_of call) made) 18446744073709551615

-- the list has the same number of calls of each kind as the disk counted
abbrev pub counts_calls : MemDisk → List Made → Type 0
counts_calls disk made = (call : DiskCall) → calls_of disk call ≡ counted call made

-- one more call of this kind was counted, and none of another
pub record CountsOne (old new : MemDisk) (call : DiskCall) : Type 0 where
  pub rose : calls_of new call ≡ next (calls_of old call)
  pub others : (other : DiskCall) → (other ≡ call → ⊥) → calls_of new other ≡ calls_of old other
