-- How does a disk stand before a commit or a recovery, and after it? (This project's own.)
use Rattle.std.specs.Prelude.{◌≡◌, Bool, true, ℕ, List, [], length}
use Rattle.hive_model.specs.Base.{Base, is_bins_size}
use Rattle.hive_model.specs.Recovery.{Recovered}
use Rattle.hive_model.specs.Carries.{Carries, HasLog}
use Rattle.hive_model.specs.Log.{dirty, log_of}
use Rattle.nt_edge.specs.Disk.{DiskState}
use Rattle.hive_log.specs.Found.{Found}

-- the disk is on and, where it reports what it holds, has nothing in flight and carries this base block and these bins data
pub record IsCleanWith (tells : Bool) (disk : DiskState) (base : Base) (bins : List ℕ) : Type 0 where
  pub on : disk.on ≡ true
  pub still : tells ≡ true → disk.flight ≡ []
  pub carries : tells ≡ true → Carries disk.held base bins

-- A commit is done: this base block is answered, and the disk is clean with it and the new data. Its log begins with the file
-- of the change: it has the sectors that differ, and no other.
pub record IsCommitted (tells : Bool) (disk : DiskState) (old new : List ℕ) (closed answer : Base) : Type 0 where
  pub answered : answer ≡ closed
  pub clean : IsCleanWith tells disk closed new
  pub logged : tells ≡ true → HasLog disk.held (log_of (dirty old new) new closed)

-- a recovery is done: its data have a size that a commit takes, and the disk is clean with them
pub record IsRecoveredOn (tells : Bool) (disk : DiskState) (found : Recovered) : Type 0 where
  pub sized : is_bins_size (length found.bins) ≡ true
  pub clean : IsCleanWith tells disk found.base found.bins

-- the disk is on and, where it reports what it holds, has nothing in flight, and a reading finds this base block, bits and data
pub record IsFoundOn (tells : Bool) (disk : DiskState) (closed : Base) (bitmap bins : List ℕ) : Type 0 where
  pub on : disk.on ≡ true
  pub still : tells ≡ true → disk.flight ≡ []
  pub found : tells ≡ true → Found disk.held closed bitmap bins
