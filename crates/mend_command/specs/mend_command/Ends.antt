-- How does a repair end: what was printed, what the disk then has, and which cause each status had? This project's own.
use Rattle.std.specs.Prelude.{◌≡◌, ◌⊎◌, ◌++◌, Bool, true, false, ℕ, List, []}
use Rattle.nt_bytes.specs.declared.fault.HiveFault.{HiveFault as Fault}
use Rattle.hive_model.specs.Image.{Image}
use Rattle.hive_model.specs.Carries.{Carries}
use Rattle.hive_model.specs.Load.{Loads, LoadFault}
use Rattle.nt_edge.specs.Disk.{DiskState, CountsGrow}
use Rattle.nt_edge.specs.Host.{HostState, KeepsHost, KeepsFiles, AsksNone, SaysFront}
use Rattle.nt_bytes.specs.Counts.{Rises}
use Rattle.mend_command.specs.hive_mend.Loaded.{Loaded, loaded_state}
use Rattle.mend_command.specs.hive_mend.Loading.{IsLoadOf}
use Rattle.mend_command.specs.hive_mend.Mending.{shorter, mended_by}
use Rattle.mend_command.specs.declared.mend_command.status.MendStatus.{MendStatus}
use Rattle.mend_command.specs.declared.mend_command.status.MendStatus.TheVariants.{Done, HiveFault, WriteFault, Memory, Device, Cut}
use Rattle.mend_command.specs.mend_command.Lines.{begun_text, packed_text, mend_text, fault_text, device_text, cut_text}

-- ---- what is printed

-- the lines of the hive of this image, repaired
pub record IsMendReport (image : Image) (text : List ℕ) : Type 0 where
  pub hive : Loaded
  pub dirty : Bool
  pub load : IsLoadOf image hive dirty
  pub text_is : text ≡ mend_text hive dirty

-- the line of the first fault of this image
pub record IsFaultReport (image : Image) (text : List ℕ) : Type 0 where
  pub fault : Fault
  pub first : LoadFault image fault
  pub text_is : text ≡ fault_text fault

-- the first line of the hive of this image
pub record IsBegunReport (image : Image) (text : List ℕ) : Type 0 where
  pub hive : Loaded
  pub dirty : Bool
  pub load : IsLoadOf image hive dirty
  pub text_is : text ≡ begun_text hive dirty

-- the line of a stop of the disk, after nothing or the first line
pub record IsStopReport (line : List ℕ) (image : Image) (text : List ℕ) : Type 0 where
  pub before : List ℕ
  pub begun : (before ≡ []) ⊎ IsBegunReport image before
  pub text_is : text ≡ before ++ line

-- all that is printed with a status, of a repair of this image
abbrev pub ReportOf : Image → MendStatus → List ℕ → Type 0
ReportOf image Done text = IsMendReport image text
ReportOf image HiveFault text = IsFaultReport image text
ReportOf image WriteFault text = ⊥
ReportOf image Memory text = ⊥
ReportOf image Device text = IsStopReport device_text image text
ReportOf image Cut text = IsStopReport cut_text image text

-- what could not be said, or that there was no memory
abbrev pub IsStopped : MendStatus → Type 0
IsStopped status = (status ≡ WriteFault) ⊎ (status ≡ Memory)

-- This text was printed, and the status is the one that goes with it; or the host or the memory stopped it, and a front was printed.
abbrev pub Told : MendStatus → List ℕ → MendStatus → HostState → HostState → Type 0
Told told text status old new =
    ((status ≡ told) × (old.tells ≡ true → new.said ≡ old.said ++ text))
    ⊎ (IsStopped status × (old.tells ≡ true → SaysFront old.said new.said text))

-- the report of a repair of this image was printed, or a prefix of it
pub record SaysAs (image : Image) (status : MendStatus) (old new : HostState) : Type 0 where
  pub told : MendStatus
  pub text : List ℕ
  pub report : ReportOf image told text
  pub said : Told told text status old new

-- all that is printed with a status after the first line
abbrev pub RestOf : Loaded → MendStatus → List ℕ → Type 0
RestOf h Done text = text ≡ packed_text h (shorter h)
RestOf h HiveFault text = ⊥
RestOf h WriteFault text = ⊥
RestOf h Memory text = ⊥
RestOf h Device text = text ≡ device_text
RestOf h Cut text = text ≡ cut_text

-- the rest of a report was printed after the first line, or a prefix of it
pub record SaysRest (h : Loaded) (status : MendStatus) (old new : HostState) : Type 0 where
  pub told : MendStatus
  pub text : List ℕ
  pub rest : RestOf h told text
  pub said : Told told text status old new

-- the first line of a hive that was loaded was printed, and then the rest of its report, or a prefix of them
pub record SaysFound (h : Loaded) (dirty : Bool) (status : MendStatus) (old new : HostState) : Type 0 where
  pub told : MendStatus
  pub text : List ℕ
  pub rest : RestOf h told text
  pub said : Told told (begun_text h dirty ++ text) status old new

-- No file was put or asked for, and the count of write faults rose where something could not be said, and else neither did.
pub record HostGoes (status : MendStatus) (old new : HostState) : Type 0 where
  pub keeps : KeepsHost old new
  pub files : KeepsFiles old new
  pub unasked : AsksNone old new
  pub reads : new.reads ≡ old.reads
  pub write : status ≡ WriteFault → Rises old.writes new.writes
  pub no_write : (status ≡ WriteFault → ⊥) → new.writes ≡ old.writes

-- ---- what the disk has

-- the hive after its repair
abbrev pub mended : Loaded → Loaded
mended h = mended_by h (shorter h)

-- the disk is clean, carries the hive, and loads as its tree
pub record HasMended (h : Loaded) (disk : DiskState) : Type 0 where
  pub still : disk.flight ≡ []
  pub carries : Carries disk.held (mended h).base (mended h).bins
  pub loads : Loads disk.held (loaded_state (mended h)) false

-- the hive of the image is repaired on the disk
pub record IsMended (image : Image) (disk : DiskState) : Type 0 where
  pub hive : Loaded
  pub dirty : Bool
  pub load : IsLoadOf image hive dirty
  pub has : HasMended hive disk

-- The record stays, no count falls, a stop of the disk had its cause, a count that rose, and the disk is off where its power was lost.
-- A count rises for no other reason, unless the host or the memory stopped the line that would say so: that of cuts only at `Cut`, that
-- of faults only at `Device` or, since both may be due at one call, at `Cut`.
pub record DiskGoes (status : MendStatus) (old new : DiskState) : Type 0 where
  pub history : new.history ≡ old.history
  pub counts : CountsGrow old new
  pub cut : status ≡ Cut → Rises old.cuts new.cuts
  pub fault : status ≡ Device → Rises old.faults new.faults
  pub no_cut : (status ≡ Cut → ⊥) → IsStopped status ⊎ (new.cuts ≡ old.cuts)
  pub no_fault : (status ≡ Cut → ⊥) → (status ≡ Device → ⊥) → IsStopped status ⊎ (new.faults ≡ old.faults)
  pub off : status ≡ Cut → new.on ≡ false
