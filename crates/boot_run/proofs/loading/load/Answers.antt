use Rattle.std.proofs.Common.{◌≡◌, true, false, refl, rules, ap, sym, subst}
use Rattle.std.specs.Prelude.{IsErrOf}
use Rattle.hive_model.specs.Image.{Image}
use Rattle.hive_model.specs.Load.{Loads}
use Rattle.nt_edge.specs.Disk.{DiskState}
use Rattle.run_parts.specs.run_parts.Parts.{IsMarked}
use Rattle.hive_log.specs.declared.stops.LoadStop.{LoadStop}
use Rattle.hive_log.specs.declared.stops.LoadStop.TheVariants as stops
use Rattle.hive_store.specs.Loading.{StopsFrom}
use Rattle.hive_store.specs.Loading as store
use Rattle.report_words.specs.declared.words.Verdict.TheVariants as verdicts
use Rattle.start_model.specs.Possible.{PowerCut, DeviceFault}
use Rattle.boot_run.proofs.DiskLemmas.{marked-woken, marked-by, cut-cause, fault-cause, load-done, load-lacked, load-failed}
use Rattle.boot_run.proofs.PlayLemmas.{plays-silent}
use Rattle.boot_run.proofs.LoadLemmas.{Loaded, IsDone, IsStopped, no_fault, load_memory, load_plays, load_breaks, stopped_plays, stopped_breaks, load_down}
use Rattle.boot_run.proofs.loading.load.Given.{Over}
use Rattle.boot_run.proofs.loading.load.Goals as goal
use Rattle.boot_run.proofs.loading.load.Goals.{In-Ok, After-load_judged, In-Ok-load_judged, After-end_with, After-end_with-in-Err-Device}

-- the image that the disk woke up with, which it holds
abbrev image : (g : Over) → In-Ok g → Image
image g c = c.in-Ok.ensures.woken.0

held : (g : Over) (c : In-Ok g) → (g.B.Disk.state c.power_on.new.self).held ≡ image g c
held g c = ap (λ (t : DiskState). t.held) c.in-Ok.ensures.woken.2

marked : (g : Over) (c : In-Ok g) → IsMarked (g.B.Disk.state c.power_on.new.self)
marked g c = marked-woken (image g c) (g.B.Disk.state c.args.bench.now) (g.B.Disk.state c.power_on.new.self)
    c.in-Ok.ensures.woken.2

-- whatever came of the load
left : (g : Over) (c : After-load_judged g)
    → Loaded (image g (goal.at.After-load_judged g c).In-Ok) (g.B.Disk.state c.args.bench.now)
    (g.B.Disk.state c.power_on.new.self) (g.B.Disk.state c.load_judged.new.disk)
left g c = record {
  may_be = c.in-Ok.ensures.woken.1;
  woke = c.in-Ok.ensures.woken.2;
  keeps = c.load_judged.ensures.cut g.met.B.Bench.told;
  crash = λ s dirty l. let P : Image → Type 0 = λ i. Loads i s dirty in
      c.load_judged.ensures.crash g.met.B.Bench.told s dirty
      (subst P (sym (held g (goal.at.After-load_judged g c).In-Ok)) l);
  history = c.load_judged.ensures.goes.history;
  counts = c.load_judged.ensures.goes.counts;
}

done : (g : Over) (c : In-Ok-load_judged g)
    → IsDone (image g (goal.at.In-Ok-load_judged g c).In-Ok) (g.B.Disk.state c.args.bench.now)
    (g.B.Disk.state c.power_on.new.self) (g.B.Disk.state c.load_judged.new.disk) c.in-Ok-load_judged.hive
    c.in-Ok-load_judged.recovered
done g c =
    let told : g.B.Disk.tells ≡ true = g.met.B.Bench.told in
    let P : Image → Type 0 = λ i. Loads i (store.loaded_state c.in-Ok-load_judged.hive) c.in-Ok-load_judged.recovered in
    record {
      left = left g (goal.at.In-Ok-load_judged g c).After-load_judged;
      exact = subst P (held g (goal.at.In-Ok-load_judged g c).In-Ok) (c.in-Ok-load_judged.ensures.exact told);
      unchanged = c.in-Ok-load_judged.ensures.loaded.unchanged;
      none = c.in-Ok-load_judged.ensures.loaded.clean.still told;
      loads = c.in-Ok-load_judged.ensures.loaded.loads told;
      quiet = load-done _ (g.B.Disk.state c.power_on.new.self) (g.B.Disk.state c.load_judged.new.disk)
          c.in-Ok-load_judged.ensures.goes;
    }

cut : (g : Over) (c : After-end_with g)
    → IsStopped (image g (goal.at.After-end_with g c).In-Ok) (g.B.Disk.state c.args.bench.now)
    (g.B.Disk.state c.power_on.new.self) (g.B.Disk.state c.load_judged.new.disk) (g.B.Disk.state c.end_with.new.bench)
    PowerCut
cut g c =
    let stopped : IsErrOf c.load_judged.result stops.PowerLost = search rules in
    let counted = c.load_judged.ensures.goes.cut stopped in
    record {
      left = left g (goal.at.After-end_with g c).After-load_judged;
      cause = cut-cause (g.B.Disk.state c.power_on.new.self) (g.B.Disk.state c.load_judged.new.disk)
          (marked g (goal.at.After-end_with g c).In-Ok) counted;
      counted = counted;
      off = c.end_with.ensures.off;
    }

fault : (g : Over) (c : After-end_with-in-Err-Device g)
    → IsStopped (image g (goal.at.After-end_with-in-Err-Device g c).In-Ok) (g.B.Disk.state c.args.bench.now)
    (g.B.Disk.state c.power_on.new.self) (g.B.Disk.state c.load_judged.new.disk)
    (g.B.Disk.state c.end_with-in-Err-Device.new.bench) DeviceFault
fault g c =
    let d1 = g.B.Disk.state c.power_on.new.self in
    let e = g.B.Disk.state c.load_judged.new.disk in
    let stopped : IsErrOf c.load_judged.result stops.Device = search rules in
    record {
      left = left g (goal.at.After-end_with-in-Err-Device g c).After-load_judged;
      cause = fault-cause d1 e (marked g (goal.at.After-end_with-in-Err-Device g c).In-Ok)
          (c.load_judged.ensures.goes.fault stopped);
      counted = load-failed c.load_judged.result d1 e c.load_judged.ensures.goes stopped;
      off = c.end_with-in-Err-Device.ensures.off;
    }

pub unreachable-requires : goal.unreachable-requires
unreachable-requires g c =
    let image = (g.B.Disk.state c.power_on.new.self).held in
    let w = c.in-Ok.ensures.woken in
    let P : LoadStop → Type 0 = λ stop. StopsFrom image stop in
    let any = c.requires.down.loads w.0 w.1 in
    let Q : Image → Type 0 = λ i. Loads i any.0.state any.0.dirty in
    no_fault image any.0.state any.0.dirty c.in-Err-Fault.field-0-0
    (subst Q (sym (held g (goal.at.unreachable-requires g c).In-Ok)) any.1)
    (subst P c.in-Err-Fault.field-0-is (c.in-Err-Fault.ensures.exact g.met.B.Bench.told))

pub returns-in_default-clause-plays : goal.returns-in_default-clause-plays
returns-in_default-clause-plays g c = λ m next tells counts may stays.
    rw c.in_default.ensures.before (plays-silent refl may)

pub returns-in_ok-say-in-Ok-load_judged-clause-plays : goal.returns-in_ok-say-in-Ok-load_judged-clause-plays
returns-in_ok-say-in-Ok-load_judged-clause-plays g c = λ m next tells counts may stays.
    load_plays m next (may c.in-Ok.ensures.woken.0 c.in-Ok.ensures.woken.1)
    (done g (goal.at.returns-in_ok-say-in-Ok-load_judged-clause-plays g c).In-Ok-load_judged)
    (record c.args.runner.now { summary = c.say.new.summary; judged = c.take-judged.new.self })
    c.sequence-sequence.ensures
    (c.in_ok-say-in-Ok-load_judged.ensures.tells tells) (record { machine = counts.machine; starts = counts.starts })

pub returns-in_err-say-in-Ok-load_judged-clause-plays : goal.returns-in_err-say-in-Ok-load_judged-clause-plays
returns-in_err-say-in-Ok-load_judged-clause-plays g c = λ m next tells counts may stays.
    load_breaks m next (may c.in-Ok.ensures.woken.0 c.in-Ok.ensures.woken.1)
    (done g (goal.at.returns-in_err-say-in-Ok-load_judged-clause-plays g c).In-Ok-load_judged)
    c.from_residual.ensures.0 stays c.sequence-sequence.ensures (c.in_err-say-in-Ok-load_judged.ensures.tells tells)

pub returns-in-Err-Memory-clause-plays : goal.returns-in-Err-Memory-clause-plays
returns-in-Err-Memory-clause-plays g c = λ m next tells counts may stays.
    let lacked : IsErrOf c.load_judged.result stops.Memory = search rules in
    load_memory m next (may c.in-Ok.ensures.woken.0 c.in-Ok.ensures.woken.1) refl (left g (goal.at.returns-in-Err-Memory-clause-plays g c).After-load_judged)
    (load-lacked c.load_judged.result (g.B.Disk.state c.power_on.new.self) (g.B.Disk.state c.load_judged.new.disk)
    c.load_judged.ensures.goes lacked)

pub returns-in_ok-say-in-Ok-load_judged-clause-sound : goal.returns-in_ok-say-in-Ok-load_judged-clause-sound
returns-in_ok-say-in-Ok-load_judged-clause-sound g c =
    let all = done g (goal.at.returns-in_ok-say-in-Ok-load_judged-clause-sound g c).In-Ok-load_judged in (
      record {
        on = search rules;
        still = all.none;
        carries = c.in-Ok-load_judged.ensures.loaded.clean.carries g.met.B.Bench.told;
        loads = (record { state = store.loaded_state c.in-Ok-load_judged.hive; dirty = false }, all.loads);
        marked = marked-by (g.B.Disk.state c.power_on.new.self) (g.B.Disk.state c.load_judged.new.disk) all.left.history
            all.left.counts (marked g (goal.at.returns-in_ok-say-in-Ok-load_judged-clause-sound g c).In-Ok);
      },
      (all.unchanged, record { machine = refl; starts = refl }),
    )

pub returns-in_err-end_with-in-Err-PowerLost-clause-plays : goal.returns-in_err-end_with-in-Err-PowerLost-clause-plays
returns-in_err-end_with-in-Err-PowerLost-clause-plays g c = λ m next tells counts may stays.
    stopped_breaks m next (may c.in-Ok.ensures.woken.0 c.in-Ok.ensures.woken.1) verdicts.Cut refl refl
    (cut g (goal.at.returns-in_err-end_with-in-Err-PowerLost-clause-plays g c).After-end_with)
    c.from_residual-in_err-end_with-in-Err-PowerLost.ensures.0 (c.in_err-end_with-in-Err-PowerLost.ensures.tells tells)

pub returns-in_ok-end_with-in-Err-PowerLost-clause-plays : goal.returns-in_ok-end_with-in-Err-PowerLost-clause-plays
returns-in_ok-end_with-in-Err-PowerLost-clause-plays g c = λ m next tells counts may stays.
    stopped_plays m next (may c.in-Ok.ensures.woken.0 c.in-Ok.ensures.woken.1) verdicts.Cut refl refl
    (cut g (goal.at.returns-in_ok-end_with-in-Err-PowerLost-clause-plays g c).After-end_with)
    c.end_with.new.runner (c.in_ok-end_with-in-Err-PowerLost.ensures.tells tells) counts c.end_with.ensures.machine
    c.end_with.ensures.starts

pub returns-in_ok-end_with-in-Err-PowerLost-clause-sound : goal.returns-in_ok-end_with-in-Err-PowerLost-clause-sound
returns-in_ok-end_with-in-Err-PowerLost-clause-sound g c = (
  load_down (left g (goal.at.returns-in_ok-end_with-in-Err-PowerLost-clause-sound g c).After-load_judged)
      (c.requires.down.loads c.in-Ok.ensures.woken.0 c.in-Ok.ensures.woken.1) c.end_with.ensures.off,
  search rules,
)

pub returns-in_err-end_with-in-Err-Device-clause-plays : goal.returns-in_err-end_with-in-Err-Device-clause-plays
returns-in_err-end_with-in-Err-Device-clause-plays g c = λ m next tells counts may stays.
    stopped_breaks m next (may c.in-Ok.ensures.woken.0 c.in-Ok.ensures.woken.1) verdicts.Device refl refl
    (fault g (goal.at.returns-in_err-end_with-in-Err-Device-clause-plays g c).After-end_with-in-Err-Device)
    c.from_residual-in_err-end_with-in-Err-Device.ensures.0 (c.in_err-end_with-in-Err-Device.ensures.tells tells)

pub returns-in_ok-end_with-in-Err-Device-clause-plays : goal.returns-in_ok-end_with-in-Err-Device-clause-plays
returns-in_ok-end_with-in-Err-Device-clause-plays g c = λ m next tells counts may stays.
    stopped_plays m next (may c.in-Ok.ensures.woken.0 c.in-Ok.ensures.woken.1) verdicts.Device refl refl
    (fault g (goal.at.returns-in_ok-end_with-in-Err-Device-clause-plays g c).After-end_with-in-Err-Device)
    c.end_with-in-Err-Device.new.runner (c.in_ok-end_with-in-Err-Device.ensures.tells tells) counts
    c.end_with-in-Err-Device.ensures.machine c.end_with-in-Err-Device.ensures.starts

pub returns-in_ok-end_with-in-Err-Device-clause-sound : goal.returns-in_ok-end_with-in-Err-Device-clause-sound
returns-in_ok-end_with-in-Err-Device-clause-sound g c = (
  load_down (left g (goal.at.returns-in_ok-end_with-in-Err-Device-clause-sound g c).After-load_judged)
      (c.requires.down.loads c.in-Ok.ensures.woken.0 c.in-Ok.ensures.woken.1) c.end_with-in-Err-Device.ensures.off,
  search rules,
)
