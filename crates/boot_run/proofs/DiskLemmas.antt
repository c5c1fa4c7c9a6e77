-- What a disk with nothing in flight may be left as, and what remains when it is turned off.
use Rattle.std.proofs.Common.{◌≡◌, ◌⊎◌, inl, inr, ⊎_elim, false, List, [], ◌∷◌, map, refl, sym, ap, subst}
use Rattle.std.specs.Prelude.{Result, Ok, Err, IsErrOf}
use Rattle.hive_model.specs.Image.{Image}
use Rattle.hive_model.specs.State.{HiveState}
use Rattle.hive_model.specs.Load.{Loads, LoadsAs}
use Rattle.nt_edge.specs.Disk.{DiskState, CountsGrow, History, Wake}
use Rattle.nt_edge.specs.Crash.{EachCrash}
use Rattle.nt_edge.specs.Frames.{GoesOn}
use Rattle.hive_log.specs.Stops.{IsLoadOn}
use Rattle.hive_log.specs.declared.stops.LoadStop.{LoadStop}
use Rattle.hive_log.specs.declared.stops.LoadStop.TheVariants as load
use Rattle.hive_commit.specs.Stops.{IsCommitOn}
use Rattle.hive_commit.specs.declared.stops.CommitStop.{CommitStop}
use Rattle.hive_commit.specs.declared.stops.CommitStop.TheVariants as commit
use Rattle.nt_bytes.specs.Counts.{Rises}
use Rattle.nt_edge.specs.Bench.{turned_off, woken}
use Rattle.start_model.specs.Causes.{Tally, HasCause}
use Rattle.start_model.specs.Act.{Note}
use Rattle.start_model.specs.Report.{Going}
use Rattle.start_model.specs.Fits.{MayLoad, outcomes_in}
use Rattle.start_model.specs.Possible.{Outcome, PowerCut, DeviceFault, settled_at, open_between}
use Rattle.run_parts.specs.run_parts.Counted.{CountedIn}
use Rattle.run_parts.specs.run_parts.Parts.{Grew, Later, IsMarked, since_wake, tally_now, tally_at}
use Rattle.run_parts.specs.run_parts.Reports.{LeftOf}
use Rattle.run_parts.specs.printed_parts.Parts.{Told, Goes, GoesBut}
use Rattle.run_parts.proofs.CountLemmas.{Alone, later-same, no_less-then, no_less-bounded, rises-since, since-grown}
use Rattle.run_parts.proofs.GoesLemmas.{Idle, image_at}
use Rattle.run_parts.proofs.ChainLemmas.{chained-left}

-- an image that loads clean as a state is one that the disk may load as
pub settled_loads : (image : Image) (s : HiveState) → Loads image s false → MayLoad (settled_at s) image
settled_loads image s loads =
    record {
      woken = record { state = s; dirty = false };
      loads = loads;
      possible = record { state = inl refl; dirty = refl };
    }

-- the same of either state of an open change
pub open_loads : (before after : HiveState) (image : Image) → LoadsAs image before ⊎ LoadsAs image after
    → MayLoad (open_between before after) image
open_loads before after image =
    λ (either : LoadsAs image before ⊎ LoadsAs image after). ⊎_elim
    (λ l. record {
      woken = record { state = before; dirty = l.0 };
      loads = l.1;
      possible = record { state = inl refl; dirty = tt };
    })
    (λ l. record {
      woken = record { state = after; dirty = l.0 };
      loads = l.1;
      possible = record { state = inr refl; dirty = tt };
    })
    either

-- nothing more was done to a disk that is turned off
grew-off : (notes : List Note) (added : List Wake) (d e f : DiskState) → Grew notes added d e → f ≡ turned_off e
    → Grew notes added d f
grew-off notes added d e f s off =
    let P : DiskState → Type 0 = λ t. Grew notes added d t in
    let here : Grew notes added d (turned_off e) = record {
      wakes = s.wakes;
      armings = s.armings;
      cut_calls = s.cut_calls;
      placings = s.placings;
      takings = s.takings;
      later = s.later;
      caused = s.caused;
    } in
    subst P (sym off) here

pub alone-off : (d e f : DiskState) → Alone d e → f ≡ turned_off e → Alone d f
alone-off d e f s off = grew-off [] [] d e f s off

pub counted-off : (u : Outcome) (d e f : DiskState) → CountedIn u (tally_now d) (tally_now e) → f ≡ turned_off e
    → CountedIn u (tally_now d) (tally_now f)
counted-off u d e f counted off = let P : DiskState → Type 0 = λ t. CountedIn u (tally_now d) (tally_now t) in
    subst P (sym off) counted

pub idle-off : (d e f : DiskState) → Idle d e → f ≡ turned_off e → Idle d f
idle-off d e f s off =
    let P : DiskState → Type 0 = λ t. Idle d t in
    let here : Idle d (turned_off e) = record {
      still = record { alone = alone-off d e (turned_off e) s.still.alone refl; same = s.still.same };
      left = s.left;
    } in
    subst P (sym off) here

-- the same part, whose disk is turned off after it
part-off : (untold : List Note) (a b : Going) (x y : Told) (d e : DiskState) → GoesBut untold a b x y d e
    → GoesBut untold a b x y d (turned_off e)
part-off untold a b x y d e g = record {
  lines = g.lines;
  notes = g.notes;
  added = g.added;
  woken = g.woken;
  tells = g.tells;
  grew = grew-off g.notes g.added d e (turned_off e) g.grew refl;
  fits = g.fits;
  goes = g.goes;
  adds_up = g.adds_up;
}

pub goes_but-off : (untold : List Note) (a b : Going) (x y : Told) (d e f : DiskState) → f ≡ turned_off e
    → GoesBut untold a b x y d e
    → GoesBut untold a b x y d f
goes_but-off untold a b x y d e f off g = let P : DiskState → Type 0 = λ t. GoesBut untold a b x y d t in
    subst P (sym off) (part-off untold a b x y d e g)

pub goes-off : (a b : Going) (x y : Told) (d e f : DiskState) → f ≡ turned_off e → Goes a b x y d e → Goes a b x y d f
unfolding part-off
goes-off a b x y d e f off g =
    let P : DiskState → Type 0 = λ t. Goes a b x y d t in
    let here : Goes a b x y d (turned_off e) = record {
      part = part-off [] a b x y d e g.part;
      chained = chained-left a g.part.woken (outcomes_in g.part.lines) g.part.notes (map image_at g.part.added) d e
          (turned_off e) (λ image left. left) g.chained;
    } in
    subst P (sym off) here

-- ---- what an operation counted, by its answer

counted-none : (d e : DiskState) (lost failed lacked : Type 0) → GoesOn d e lost failed lacked → (lost → ⊥) → (failed → ⊥)
    → tally_now e ≡ tally_now d
counted-none d e lost failed lacked g no_loss no_failure =
    λ i. record { cuts = g.no_cut no_loss i; faults = g.no_fault no_loss no_failure i }

pub load-done : {T : Type 0} → (x : T) (d e : DiskState) → IsLoadOn d e (Ok x) → tally_now e ≡ tally_now d
load-done x d e g = counted-none d e _ _ _ g (λ h. absurd cc) (λ h. absurd cc)

pub load-lacked : {T : Type 0} → (r : Result T LoadStop) (d e : DiskState) → IsLoadOn d e r → IsErrOf r load.Memory
    → tally_now e ≡ tally_now d
load-lacked (Ok x) d e g h = absurd cc
load-lacked (Err stop) d e g h = counted-none d e _ _ _ g (λ q. absurd cc) (λ q. absurd cc)

pub load-failed : {T : Type 0} → (r : Result T LoadStop) (d e : DiskState) → IsLoadOn d e r → IsErrOf r load.Device
    → CountedIn DeviceFault (tally_now d) (tally_now e)
load-failed (Ok x) d e g h = absurd cc
load-failed (Err stop) d e g h = (g.no_cut (λ q. absurd cc), g.fault h)

pub commit-done : {T : Type 0} → (x : T) (d e : DiskState) → IsCommitOn d e (Ok x) → tally_now e ≡ tally_now d
commit-done x d e g = counted-none d e _ _ _ g.goes_on (λ h. absurd cc) (λ h. absurd cc)

pub commit-lacked : {T : Type 0} → (r : Result T CommitStop) (d e : DiskState) → IsCommitOn d e r → IsErrOf r commit.Memory
    → tally_now e ≡ tally_now d
commit-lacked (Ok x) d e g h = absurd cc
commit-lacked (Err stop) d e g h = counted-none d e _ _ _ g.goes_on (λ q. absurd cc) (λ q. absurd cc)

pub commit-failed : {T : Type 0} → (r : Result T CommitStop) (d e : DiskState) → IsCommitOn d e r → IsErrOf r commit.Device
    → CountedIn DeviceFault (tally_now d) (tally_now e)
commit-failed (Ok x) d e g h = absurd cc
commit-failed (Err stop) d e g h = (g.goes_on.no_cut (λ q. absurd cc), g.goes_on.fault h)

pub left-off : (d e : DiskState) (P : Image → Type 0) → e ≡ turned_off d → EachCrash d P → EachCrash e P
left-off d e P off h = let Q : DiskState → Type 0 = λ t. EachCrash t P in subst Q (sym off) h

pub may_be-off : (d e : DiskState) → e ≡ turned_off d → (image : Image) → LeftOf e image → LeftOf d image
may_be-off d e off image = let Q : DiskState → Type 0 = λ t. LeftOf t image → LeftOf d image in subst Q (sym off) (λ h. h)

-- calls of the disk alone leave it counted no less than at its last wake
pub marked-by : (d e : DiskState) → e.history ≡ d.history → CountsGrow d e → IsMarked d → IsMarked e
marked-by d e same counts m =
    let P : Tally → Type 0 = λ t. Later t [] (tally_now e) in
    let since : since_wake d ≡ since_wake e = ap (λ (h : History). since_wake (record d { history = h })) (sym same) in
    subst P since (record {
      cuts = no_less-then (since_wake d).cuts d.cuts e.cuts m.cuts
          (no_less-bounded d.cuts e.cuts counts.cuts counts.cuts_end);
      faults = no_less-then (since_wake d).faults d.faults e.faults m.faults
          (no_less-bounded d.faults e.faults counts.faults counts.faults_end);
    })

-- a disk that just woke up is counted as at its wake
pub marked-woken : (i : Image) (d e : DiskState) → e ≡ woken i d → IsMarked e
marked-woken i d e is =
    let P : DiskState → Type 0 = λ t. IsMarked t in
    let one : Wake = record { image = i; cuts = d.cuts; faults = d.faults } in
    let since : since_wake (woken i d) ≡ tally_at one = since-grown d (woken i d) (one ∷ []) refl in
    let Q : Tally → Type 0 = λ t. Later t [] (tally_now (woken i d)) in
    subst P (sym is) (subst Q (sym since) (later-same (tally_now d)))

-- a stop that the disk answered has its cause since the disk's last wake
pub cut-cause : (d e : DiskState) → IsMarked d → Rises d.cuts e.cuts → HasCause PowerCut (since_wake d) (tally_now e)
cut-cause d e m r = rises-since (since_wake d).cuts d.cuts e.cuts m.cuts r

pub fault-cause : (d e : DiskState) → IsMarked d → Rises d.faults e.faults
    → HasCause DeviceFault (since_wake d) (tally_now e)
fault-cause d e m r = rises-since (since_wake d).faults d.faults e.faults m.faults r
