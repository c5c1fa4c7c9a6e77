-- When a recovery has written nothing. (This project's own.)
use Rattle.std.specs.Prelude.{◌≡◌, Result, Ok, Err}
use Rattle.nt_edge.specs.Disk.{DiskState}
use Rattle.nt_bytes.specs.Counts.{Rises}
use Rattle.hive_log.specs.declared.stops.LoadStop.{LoadStop}
use Rattle.hive_log.specs.declared.stops.LoadStop.TheVariants as load

-- the contents are as they were
pub record IsUntouched (old new : DiskState) : Type 0 where
  pub held : new.held ≡ old.held
  pub flight : new.flight ≡ old.flight

-- a fault has written nothing, and neither has lack of memory that is not the disk's
abbrev pub IsUnwritten : {T : Type 0} → DiskState → DiskState → Result T LoadStop → Type 0
IsUnwritten old new (Ok x) = Unit {0}
IsUnwritten old new (Err (load.Fault f)) = IsUntouched old new
IsUnwritten old new (Err load.PowerLost) = Unit {0}
IsUnwritten old new (Err load.Device) = Unit {0}
IsUnwritten old new (Err load.Memory) = (Rises old.lacks new.lacks → ⊥) → IsUntouched old new
