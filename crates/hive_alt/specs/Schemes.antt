-- What a way to keep a hive on a disk promises. (This project's own.)
use Rattle.std.specs.Prelude.{◌≡◌, ◌⊎◌, ◌++◌, Bool, false, ℕ, List, [], Result, Ok, Err}
use Rattle.nt_bytes.specs.Front.{IsFront}
use Rattle.nt_bytes.specs.declared.fault.HiveFault.{HiveFault}
use Rattle.hive_model.specs.Base.{Base}
use Rattle.hive_model.specs.Image.{Image, Address}
use Rattle.hive_model.specs.Recovery.{Recovered}
use Rattle.hive_model.specs.State.{HiveState}
use Rattle.hive_model.specs.Load.{Holds, HeldFault}
use Rattle.nt_edge.specs.Calls.{Made, Makes, reads_of}
use Rattle.hive_log.specs.Asked.{MakesReads}
use Rattle.hive_log.specs.declared.stops.LoadStop.{LoadStop}
use Rattle.hive_log.specs.declared.stops.LoadStop.TheVariants as load

-- what each image stands for, and whether a load repairs something; or the first check that fails
abbrev pub Standing : Type 0
Standing = Image → Result Recovered HiveFault

-- the image stands for this base block and these bins data, be there something to repair or not
pub record IsKeptAs (stands : Standing) (base : Base) (bins : List ℕ) (image : Image) : Type 0 where
  pub dirty : Bool
  pub kept : stands image ≡ Ok (record { base = base; bins = bins; dirty = dirty })

-- the image stands for what was before a commit, or for what is after it
abbrev pub IsKeptAsEither : Standing → Base → List ℕ → Base → List ℕ → Image → Type 0
IsKeptAsEither stands base old closed new image = IsKeptAs stands base old image ⊎ IsKeptAs stands closed new image

-- the image stands for this state
pub record StandsFor (stands : Standing) (state : HiveState) (image : Image) : Type 0 where
  pub recovered : Recovered
  pub read : stands image ≡ Ok recovered
  pub holds : Holds recovered state

-- the image stands for this state, and there is nothing to repair
pub record StandsClean (stands : Standing) (state : HiveState) (image : Image) : Type 0 where
  pub stands_for : StandsFor stands state image
  pub clean : stands_for.recovered.dirty ≡ false

-- the first fault of the image
abbrev pub StandFault : Standing → Image → HiveFault → Type 0
StandFault stands image fault = (stands image ≡ Err fault) ⊎ ((recovered : Recovered) × (stands image ≡ Ok recovered) × HeldFault recovered fault)

-- sectors were read, and no other call was made
abbrev pub OnlyReads : (List Made → Type 0) → (List Made → Type 0) → Type 0
OnlyReads before after = MakesReads before after (λ sectors. Unit {0})

-- a prefix of some calls of this kind
pub record IsFrontOf (kind : List Made → Type 0) (calls : List Made) : Type 0 where
  pub whole : List Made
  pub is : kind whole
  pub front : IsFront whole calls

-- the calls are of this kind; where the disk or the memory stopped them, a prefix of some
abbrev pub AreOf : {T : Type 0} → (List Made → Type 0) → Result T LoadStop → List Made → Type 0
AreOf kind (Ok x) calls = kind calls
AreOf kind (Err (load.Fault f)) calls = kind calls
AreOf kind (Err load.PowerLost) calls = IsFrontOf kind calls
AreOf kind (Err load.Device) calls = IsFrontOf kind calls
AreOf kind (Err load.Memory) calls = IsFrontOf kind calls

-- Sectors were read, then nothing or a prefix of a repair was written, and no other call was made; which calls, the test says.
pub record MakesLoad (before after : List Made → Type 0) (repair which : List Made → Type 0) : Type 0 where
  pub sectors : List Address
  pub writes : List Made
  pub written : (writes ≡ []) ⊎ IsFrontOf repair writes
  pub made : Makes before after (reads_of sectors ++ writes)
  pub are : which (reads_of sectors ++ writes)
