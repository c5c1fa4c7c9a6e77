-- Which calls a load makes where it stopped: those of a session's load.
use Rattle.std.proofs.Common.{◌≡◌, Bool, List, Result, Ok, Err}
use Rattle.std.specs.Result.{IsErrAnd}
use Rattle.nt_bytes.specs.declared.fault.HiveFault.{HiveFault}
use Rattle.nt_bytes.specs.Front.{IsFront}
use Rattle.hive_model.specs.Asked.{asked_of}
use Rattle.hive_model.specs.Image.{Image, Address}
use Rattle.hive_model.specs.Load.{LoadFault}
use Rattle.nt_edge.specs.Calls.{Made, reads_of}
use Rattle.nt_edge.specs.declared.disk.DiskStop.{DiskStop}
use Rattle.hive_log.specs.Asked.{IsAsked}
use Rattle.hive_log.specs.Stops.{load_stop_of}
use Rattle.hive_log.specs.declared.stops.LoadStop.{LoadStop}
use Rattle.hive_log.specs.declared.stops.LoadStop.TheVariants as load
use Rattle.hive_commit.specs.Calls.{recovery_calls}
use Rattle.hive_store.proofs.LoadingCalls as session
use Rattle.mend_command.specs.hive_mend.Loaded.{Loaded}
use Rattle.mend_command.specs.declared.hive_mend.loading.Unmended.{Unmended}
use Rattle.mend_command.specs.hive_mend.Loading.{AreOfLoad}

module _ (image : Image) where
  -- while it read
  pub stopped_look : (r : Result (Loaded × Bool) LoadStop) (e : LoadStop) (sectors : List Address)
      → IsErrAnd r (λ made. made ≡ e)
      → IsAsked {T = Unmended} (asked_of image) (Err e) sectors → AreOfLoad image r (reads_of sectors)
  stopped_look (Ok x) e sectors err is = absurd err
  stopped_look (Err y) (load.Fault f) sectors err is = session.stopped_look image (Err y) (load.Fault f) sectors err is
  stopped_look (Err y) load.PowerLost sectors err is = session.stopped_look image (Err y) load.PowerLost sectors err is
  stopped_look (Err y) load.Device sectors err is = session.stopped_look image (Err y) load.Device sectors err is
  stopped_look (Err y) load.Memory sectors err is = session.stopped_look image (Err y) load.Memory sectors err is

  -- while it restored a hive that has no fault
  pub stopped_restore : (r : Result (Loaded × Bool) LoadStop) (stop : DiskStop) (calls : List Made)
      → IsErrAnd r (λ made. made ≡ load_stop_of stop) → IsFront (recovery_calls image) calls
      → ((fault : HiveFault) → LoadFault image fault → ⊥) → AreOfLoad image r calls
  stopped_restore (Ok x) stop calls err front sound = absurd err
  stopped_restore (Err e) stop calls err front sound = session.stopped_restore image (Err e) stop calls err front sound
