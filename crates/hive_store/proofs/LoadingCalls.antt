-- Which calls a load makes: those of one recovery.
use Rattle.std.proofs.Common.{◌≡◌, ◌++◌, Bool, List, Result, Ok, Err, sym, ◌∙◌, ap, subst, append_assoc}
use Rattle.std.specs.Result.{IsErrAnd}
use Rattle.std.proofs.lemmas.List.{map-append}
use Rattle.nt_bytes.specs.declared.fault.HiveFault.{HiveFault}
use Rattle.hive_model.specs.Image.{Image, Address}
use Rattle.hive_model.specs.Load.{LoadFault}
use Rattle.hive_model.specs.Recovery.{recovered_of}
use Rattle.nt_edge.specs.Calls.{Made, ReadAt, reads_of}
use Rattle.nt_edge.specs.declared.disk.DiskStop.{DiskStop}
use Rattle.nt_edge.specs.declared.disk.DiskStop.TheVariants as disk
use Rattle.nt_bytes.specs.Front.{IsFront}
use Rattle.hive_model.specs.Asked.{asked_of}
use Rattle.hive_log.specs.Asked.{IsAsked}
use Rattle.hive_log.specs.Stops.{load_stop_of}
use Rattle.hive_log.specs.declared.stops.LoadStop.{LoadStop}
use Rattle.hive_log.specs.declared.stops.LoadStop.TheVariants as load
use Rattle.hive_commit.specs.Calls.{recovery_calls, restoring_as}
use Rattle.hive_store.specs.Session.{Session}
use Rattle.hive_store.specs.declared.loading.Looked.{Looked}
use Rattle.hive_store.specs.Loading.{AreFrontOfLoad, AreOfLoad}

abbrev Loaded : Type 0
Loaded = Result (Session × Bool) LoadStop

module _ (image : Image) where
  reads_front : (sectors : List Address) → IsFront (asked_of image) sectors → AreFrontOfLoad image (reads_of sectors)
  reads_front sectors is =
      let cut : reads_of (asked_of image) ≡ reads_of sectors ++ reads_of is.rest =
      ap reads_of is.cut ∙ map-append ReadAt sectors is.rest in
      let writes = restoring_as image (recovered_of image) in
      record {
        recovery = record {
          rest = reads_of is.rest ++ writes;
          cut = ap (λ (l : List Made). l ++ writes) cut ∙ append_assoc (reads_of sectors) (reads_of is.rest) writes;
        };
        faulty = λ fault fails. record { rest = reads_of is.rest; cut = cut };
      }

  looked : (e : LoadStop) (sectors : List Address) → IsAsked {T = Looked} (asked_of image) (Err e) sectors
      → AreOfLoad image (Err e) (reads_of sectors)
  looked (load.Fault f) sectors is = ap reads_of is
  looked load.PowerLost sectors is = reads_front sectors is
  looked load.Device sectors is = reads_front sectors is
  looked load.Memory sectors is = reads_front sectors is

  -- a look that stopped
  pub stopped_look : (r : Loaded) (e : LoadStop) (sectors : List Address) → IsErrAnd r (λ made. made ≡ e)
      → IsAsked {T = Looked} (asked_of image) (Err e) sectors
      → AreOfLoad image r (reads_of sectors)
  stopped_look (Ok x) e sectors err is = absurd err
  stopped_look (Err y) e sectors err is =
      subst (λ (s : LoadStop). AreOfLoad image (Err s) (reads_of sectors)) (sym err) (looked e sectors is)

  -- a restoring that the disk stopped, of a hive that has no fault
  pub stopped_restore : (r : Loaded) (stop : DiskStop) (calls : List Made)
      → IsErrAnd r (λ made. made ≡ load_stop_of stop) → IsFront (recovery_calls image) calls
      → ((fault : HiveFault) → LoadFault image fault → ⊥) → AreOfLoad image r calls
  stopped_restore (Ok x) stop calls err front sound = absurd err
  stopped_restore (Err e) stop calls err front sound =
      let are : AreFrontOfLoad image calls =
      record { recovery = front; faulty = λ fault fails. absurd (sound fault fails) } in
      let by_disk : (s : DiskStop) → AreOfLoad image (Err (load_stop_of s)) calls =
      elim [ disk.PowerLost ↦ are | disk.Failed ↦ are | disk.Memory ↦ are ] in
      subst (λ (s : LoadStop). AreOfLoad image (Err s) calls) (sym err) (by_disk stop)
