-- What does a load of a hive answer, and which calls does it make? (This project's own.)
use Rattle.std.specs.Prelude.{◌≡◌, Bool, true, false, List, Result, Ok, Err}
use Rattle.hive_model.specs.Image.{Image}
use Rattle.hive_model.specs.Recovery.{recovered_of}
use Rattle.hive_model.specs.State.{HiveState}
use Rattle.hive_model.specs.Load.{Loads, LoadsAs}
use Rattle.nt_edge.specs.Disk.{DiskState}
use Rattle.nt_edge.specs.Crash.{EachCrash}
use Rattle.nt_edge.specs.Calls.{Made}
use Rattle.hive_log.specs.declared.stops.LoadStop.{LoadStop}
use Rattle.hive_commit.specs.Alone.{KeepsAll}
use Rattle.hive_commit.specs.Calls.{recovery_calls}
use Rattle.hive_commit.specs.Commits.{IsCleanWith}
use Rattle.hive_store.specs.Loading.{StopsFrom, AreOfLoad as AreOfSession}
use Rattle.mend_command.specs.hive_mend.Loaded.{Loaded, loaded_state}

-- the image is recovered as the base block and the bins data of the hive, dirty or not, and loads as its tree under its number
pub record IsLoadOf (image : Image) (hive : Loaded) (dirty : Bool) : Type 0 where
  pub recovered : recovered_of image ≡ Ok (record { base = hive.base; bins = hive.bins; dirty = dirty })
  pub loads : Loads image (loaded_state hive) dirty

-- of an image: the hive that it holds and whether it was dirty, or its first fault; nothing is stated of the other stops
abbrev pub LoadsFrom : Image → Result (Loaded × Bool) LoadStop → Type 0
LoadsFrom image (Ok x) = IsLoadOf image x.0 x.1
LoadsFrom image (Err stop) = StopsFrom image stop

-- the calls are those of one recovery; after a stop they are those of a session's load
abbrev pub AreOfLoad : Image → Result (Loaded × Bool) LoadStop → List Made → Type 0
AreOfLoad image (Ok x) calls = calls ≡ recovery_calls image
AreOfLoad image (Err stop) calls = AreOfSession image (Err stop) calls

-- the disk is clean with the hive's base block and bins data, and loads as its tree under its number
pub record StandsAs (tells : Bool) (disk : DiskState) (hive : Loaded) : Type 0 where
  pub clean : IsCleanWith tells disk hive.base hive.bins
  pub loads : tells ≡ true → Loads disk.held (loaded_state hive) false

-- a cut leaves what loads as the disk did, and keeps the log and the rest of the primary
pub record KeepsHive (old new : DiskState) : Type 0 where
  pub crash : (s : HiveState) (dirty : Bool) → Loads old.held s dirty → EachCrash new (λ (c : Image). LoadsAs c s)
  pub kept : KeepsAll old new
