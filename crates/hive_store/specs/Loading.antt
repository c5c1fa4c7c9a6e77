-- What does a load of a session answer, and which calls does it make? (This project's own.)
use Rattle.std.specs.Prelude.{◌≡◌, Bool, true, false, List, Result, Ok, Err}
use Rattle.nt_bytes.specs.declared.fault.HiveFault.{HiveFault}
use Rattle.hive_model.specs.Image.{Image}
use Rattle.hive_model.specs.State.{HiveState}
use Rattle.hive_model.specs.Base.{version_of}
use Rattle.hive_model.specs.Load.{Loads, LoadFault, state_of}
use Rattle.hive_model.specs.Recovery.{recovered_of}
use Rattle.nt_edge.specs.Disk.{DiskState}
use Rattle.nt_edge.specs.Calls.{Made, reads_of}
use Rattle.nt_bytes.specs.Front.{IsFront}
use Rattle.hive_model.specs.Asked.{asked_of}
use Rattle.hive_log.specs.declared.stops.LoadStop.{LoadStop}
use Rattle.hive_log.specs.declared.stops.LoadStop.TheVariants as load
use Rattle.hive_commit.specs.Calls.{recovery_calls}
use Rattle.hive_commit.specs.Commits.{IsCleanWith}
use Rattle.hive_store.specs.Session.{Session, AreCarried}

-- the session's tree under the number and in the version of its base block
abbrev pub loaded_state : Session → HiveState
loaded_state s = state_of s.tree s.base.first (version_of s.base.minor)

-- a fault is the first of the image; nothing is said of the other stops
abbrev pub StopsFrom : Image → LoadStop → Type 0
StopsFrom image (load.Fault f) = LoadFault image f
StopsFrom image load.PowerLost = Unit {0}
StopsFrom image load.Device = Unit {0}
StopsFrom image load.Memory = Unit {0}

-- of an image: the state that it loads as and whether it was dirty, or its first fault; nothing is said of the other stops
abbrev pub LoadsFrom : Image → Result (Session × Bool) LoadStop → Type 0
LoadsFrom image (Ok x) = Loads image (loaded_state x.0) x.1
LoadsFrom image (Err stop) = StopsFrom image stop

-- a prefix of the calls of one recovery; where the hive has a fault, a prefix of its reads
pub record AreFrontOfLoad (image : Image) (calls : List Made) : Type 0 where
  pub recovery : IsFront (recovery_calls image) calls
  pub faulty : (fault : HiveFault) → LoadFault image fault → IsFront (reads_of (asked_of image)) calls

-- the calls are those of one recovery, for a fault its reads alone; where the disk or the memory stopped it, a front
abbrev pub AreOfLoad : Image → Result (Session × Bool) LoadStop → List Made → Type 0
AreOfLoad image (Ok x) calls = calls ≡ recovery_calls image
AreOfLoad image (Err (load.Fault f)) calls = calls ≡ reads_of (asked_of image)
AreOfLoad image (Err load.PowerLost) calls = AreFrontOfLoad image calls
AreOfLoad image (Err load.Device) calls = AreFrontOfLoad image calls
AreOfLoad image (Err load.Memory) calls = AreFrontOfLoad image calls

-- A load is done: the session's base block and bins data are those that the disk is recovered as, the data are the bytes of its cells,
-- and nothing is changed yet. The disk is clean with them, and loads as the session's tree.
pub record HasLoaded (tells : Bool) (old new : DiskState) (answer : Session × Bool) : Type 0 where
  pub recovered : tells ≡ true → recovered_of old.held ≡ Ok (record { base = answer.0.base; bins = answer.0.bins; dirty = answer.1 })
  pub unchanged : answer.0.changed ≡ false
  pub cells : AreCarried answer.0.base answer.0.bins answer.0.cells
  pub clean : IsCleanWith tells new answer.0.base answer.0.bins
  pub loads : tells ≡ true → Loads new.held (loaded_state answer.0) false
