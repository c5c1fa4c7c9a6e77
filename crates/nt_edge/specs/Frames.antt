-- What some calls of a disk leave, whatever they answered: of a caller that only reads, and of one that writes.
-- (This project's own.)
--
-- A caller names what its answer reports: that the power was lost, that the device failed, that memory was lacking. Where
-- its answer is the disk's own, these are `IsErrOf result PowerLost` and so on.
use Rattle.std.specs.Prelude.{◌≡◌, Bool, true, false, Result, IsErrOf}
use Rattle.nt_bytes.specs.Counts.{Rises}
use Rattle.nt_edge.specs.Disk.{DiskState, CountsGrow}
use Rattle.nt_edge.specs.declared.disk.DiskStop.{DiskStop}
use Rattle.nt_edge.specs.declared.disk.DiskStop.TheVariants.{PowerLost, Failed, Memory}

-- The record of what was done from outside is as it was, no count falls, and `cuts` and `faults` rose where the answer
-- names them as the cause. A count rises for no other reason: `cuts` only where the power was lost, `lacks` only where
-- memory was lacking, `faults` where the device failed or, since both may be due at one call, the power was lost. The
-- disk is off where the power was lost, and else on.
pub record GoesOn (old new : DiskState) (lost failed lacked : Type 0) : Type 0 where
  pub history : new.history ≡ old.history
  pub counts : CountsGrow old new
  pub cut : lost → Rises old.cuts new.cuts
  pub fault : failed → Rises old.faults new.faults
  pub no_cut : (lost → ⊥) → new.cuts ≡ old.cuts
  pub no_fault : (lost → ⊥) → (failed → ⊥) → new.faults ≡ old.faults
  pub no_lack : (lacked → ⊥) → new.lacks ≡ old.lacks
  pub off : lost → new.on ≡ false
  pub on : (lost → ⊥) → new.on ≡ true

-- and `lacks` rose where memory was lacking: it was the disk's
pub record GoesFor (old new : DiskState) (lost failed lacked : Type 0) : Type 0 where
  pub goes_on : GoesOn old new lost failed lacked
  pub lack : lacked → Rises old.lacks new.lacks

-- the same of a caller whose answer is the disk's own: each refusal has its cause
abbrev pub Goes : {T : Type 0} → DiskState → DiskState → Result T DiskStop → Type 0
Goes old new result = GoesFor old new (IsErrOf result PowerLost) (IsErrOf result Failed) (IsErrOf result Memory)

-- What is held and what is in flight are as they were, where the disk reports them, and it went on. Its memory is not asked for.
pub record LeavesAsRead (tells : Bool) (old new : DiskState) (lost failed : Type 0) : Type 0 where
  pub held : tells ≡ true → new.held ≡ old.held
  pub flight : tells ≡ true → new.flight ≡ old.flight
  pub goes_on : GoesOn old new lost failed ⊥
