use Rattle.std.proofs.Common.{◌≡◌, true, false, refl, rules, ap, sym, subst}
use Rattle.std.specs.Prelude.{IsErrOf}
use Rattle.hive_model.specs.Carries.{Carries}
use Rattle.hive_commit.specs.declared.stops.CommitStop.TheVariants as stops
use Rattle.hive_store.specs.Session.{Session}
use Rattle.hive_store.specs.Commits as store
use Rattle.report_words.specs.declared.words.Verdict.TheVariants as verdicts
use Rattle.start_model.specs.Possible.{PowerCut, DeviceFault}
use Rattle.boot_run.proofs.DiskLemmas.{marked-by, cut-cause, fault-cause, commit-done, commit-lacked, commit-failed}
use Rattle.boot_run.proofs.CommitLemmas.{Committed, IsDone, IsStopped, commit_down, commit_memory, commit_plays, commit_breaks, stop_plays, stop_breaks}
use Rattle.boot_run.proofs.committing.commit.Given.{Over}
use Rattle.boot_run.proofs.committing.commit.Goals as goal
use Rattle.boot_run.proofs.committing.commit.Goals.{After-commit, In-Ok, After-end_with, After-end_with-in-Err-Device}

-- whatever came of it
left : (g : Over) (c : After-commit g)
    → Committed c.args.hive (g.B.Disk.state c.args.bench.now) (g.B.Disk.state c.commit.new.disk)
left g c = record {
  still = c.requires.up.still;
  opened = c.requires.up.carries;
  change = c.commit.ensures.change;
  either = λ image cut. (c.commit.ensures.cut g.met.B.Bench.told image cut).either;
  crash = c.commit.ensures.crash g.met.B.Bench.told;
  history = c.commit.ensures.ends.goes.goes_on.history;
  counts = c.commit.ensures.ends.goes.goes_on.counts;
}

done : (g : Over) (c : In-Ok g)
    → IsDone c.args.hive (g.B.Disk.state c.args.bench.now) (g.B.Disk.state c.commit.new.disk) c.in-Ok.hive c.in-Ok.sequence
done g c =
    let told : g.B.Disk.tells ≡ true = g.met.B.Bench.told in
    record {
      left = left g (goal.at.In-Ok g c).After-commit;
      after_is = c.in-Ok.ensures.committed.answered;
      raised = c.in-Ok.ensures.committed.number;
      none = c.in-Ok.ensures.committed.clean.still told;
      loads = c.in-Ok.ensures.committed.loads told;
      closed = c.in-Ok.ensures.committed.clean.carries told;
      log = c.in-Ok.ensures.committed.logged told;
      quiet = commit-done _ (g.B.Disk.state c.args.bench.now) (g.B.Disk.state c.commit.new.disk) c.in-Ok.ensures.ends.goes;
    }

cut : (g : Over) (c : After-end_with g)
    → IsStopped c.args.hive (g.B.Disk.state c.args.bench.now) (g.B.Disk.state c.commit.new.disk)
    (g.B.Disk.state c.end_with.new.bench) PowerCut
cut g c =
    let stopped : IsErrOf c.commit.result stops.PowerLost = search rules in
    let counted = c.commit.ensures.ends.goes.goes_on.cut stopped in
    record {
      left = left g (goal.at.After-end_with g c).After-commit;
      cause = cut-cause (g.B.Disk.state c.args.bench.now) (g.B.Disk.state c.commit.new.disk) c.requires.up.marked counted;
      counted = counted;
      off = c.end_with.ensures.off;
    }

fault : (g : Over) (c : After-end_with-in-Err-Device g)
    → IsStopped c.args.hive (g.B.Disk.state c.args.bench.now) (g.B.Disk.state c.commit.new.disk)
    (g.B.Disk.state c.end_with-in-Err-Device.new.bench) DeviceFault
fault g c =
    let d = g.B.Disk.state c.args.bench.now in
    let e = g.B.Disk.state c.commit.new.disk in
    let stopped : IsErrOf c.commit.result stops.Device = search rules in
    record {
      left = left g (goal.at.After-end_with-in-Err-Device g c).After-commit;
      cause = fault-cause d e c.requires.up.marked (c.commit.ensures.ends.goes.goes_on.fault stopped);
      counted = commit-failed c.commit.result d e c.commit.ensures.ends.goes stopped;
      off = c.end_with-in-Err-Device.ensures.off;
    }

pub returns-in_err-say-in-Ok-clause-plays : goal.returns-in_err-say-in-Ok-clause-plays
returns-in_err-say-in-Ok-clause-plays g c = λ m next tells counts live stays.
    commit_breaks m next c.args.what live (done g (goal.at.returns-in_err-say-in-Ok-clause-plays g c).In-Ok)
    c.from_residual.ensures.0 stays (c.in_err-say-in-Ok.ensures.tells tells)

pub returns-in_ok-say-in-Ok-clause-plays : goal.returns-in_ok-say-in-Ok-clause-plays
returns-in_ok-say-in-Ok-clause-plays g c = λ m next tells counts live stays.
    commit_plays m next c.args.what live (done g (goal.at.returns-in_ok-say-in-Ok-clause-plays g c).In-Ok)
    (record c.args.runner.now { summary = c.say.new.summary }) (c.in_ok-say-in-Ok.ensures.tells tells)
    (record { machine = counts.machine; starts = counts.starts })

pub returns-in-Err-Memory-clause-plays : goal.returns-in-Err-Memory-clause-plays
returns-in-Err-Memory-clause-plays g c = λ m next tells counts live stays.
    let lacked : IsErrOf c.commit.result stops.Memory = search rules in
    commit_memory m next c.args.what live refl
    (left g (goal.at.returns-in-Err-Memory-clause-plays g c).After-commit)
    (commit-lacked c.commit.result (g.B.Disk.state c.args.bench.now) (g.B.Disk.state c.commit.new.disk)
    c.commit.ensures.ends.goes lacked)

pub returns-in_err-end_with-in-Err-PowerLost-clause-plays : goal.returns-in_err-end_with-in-Err-PowerLost-clause-plays
returns-in_err-end_with-in-Err-PowerLost-clause-plays g c = λ m next tells counts live stays.
    stop_breaks m next c.args.what live verdicts.Cut refl refl
    (cut g (goal.at.returns-in_err-end_with-in-Err-PowerLost-clause-plays g c).After-end_with)
    c.from_residual-in_err-end_with-in-Err-PowerLost.ensures.0 (c.in_err-end_with-in-Err-PowerLost.ensures.tells tells)

pub returns-in_ok-end_with-in-Err-PowerLost-clause-plays : goal.returns-in_ok-end_with-in-Err-PowerLost-clause-plays
returns-in_ok-end_with-in-Err-PowerLost-clause-plays g c = λ m next tells counts live stays.
    stop_plays m next c.args.what live verdicts.Cut refl refl
    (cut g (goal.at.returns-in_ok-end_with-in-Err-PowerLost-clause-plays g c).After-end_with)
    c.end_with.new.runner (c.in_ok-end_with-in-Err-PowerLost.ensures.tells tells) counts c.end_with.ensures.machine
    c.end_with.ensures.starts

pub returns-in_ok-end_with-in-Err-PowerLost-clause-sound : goal.returns-in_ok-end_with-in-Err-PowerLost-clause-sound
returns-in_ok-end_with-in-Err-PowerLost-clause-sound g c = (
  commit_down c.requires.up.loads
      (left g (goal.at.returns-in_ok-end_with-in-Err-PowerLost-clause-sound g c).After-commit) c.end_with.ensures.off,
  search rules,
)

pub returns-in_err-end_with-in-Err-Device-clause-plays : goal.returns-in_err-end_with-in-Err-Device-clause-plays
returns-in_err-end_with-in-Err-Device-clause-plays g c = λ m next tells counts live stays.
    stop_breaks m next c.args.what live verdicts.Device refl refl
    (fault g (goal.at.returns-in_err-end_with-in-Err-Device-clause-plays g c).After-end_with-in-Err-Device)
    c.from_residual-in_err-end_with-in-Err-Device.ensures.0 (c.in_err-end_with-in-Err-Device.ensures.tells tells)

pub returns-in_ok-end_with-in-Err-Device-clause-plays : goal.returns-in_ok-end_with-in-Err-Device-clause-plays
returns-in_ok-end_with-in-Err-Device-clause-plays g c = λ m next tells counts live stays.
    stop_plays m next c.args.what live verdicts.Device refl refl
    (fault g (goal.at.returns-in_ok-end_with-in-Err-Device-clause-plays g c).After-end_with-in-Err-Device)
    c.end_with-in-Err-Device.new.runner (c.in_ok-end_with-in-Err-Device.ensures.tells tells) counts
    c.end_with-in-Err-Device.ensures.machine c.end_with-in-Err-Device.ensures.starts

pub returns-in_ok-end_with-in-Err-Device-clause-sound : goal.returns-in_ok-end_with-in-Err-Device-clause-sound
returns-in_ok-end_with-in-Err-Device-clause-sound g c = (
  commit_down c.requires.up.loads
      (left g (goal.at.returns-in_ok-end_with-in-Err-Device-clause-sound g c).After-commit)
      c.end_with-in-Err-Device.ensures.off,
  search rules,
)

pub returns-in_ok-say-in-Ok-clause-sound : goal.returns-in_ok-say-in-Ok-clause-sound
returns-in_ok-say-in-Ok-clause-sound g c =
    let all = done g (goal.at.returns-in_ok-say-in-Ok-clause-sound g c).In-Ok in
    let P : Session → Type 0 = λ t. Carries (g.B.Disk.state c.commit.new.disk).held t.base t.bins in (
      record {
        on = search rules;
        still = all.none;
        carries = subst P (sym all.after_is) all.closed;
        loads = (record { state = store.committed_state c.args.hive; dirty = false }, all.loads);
        marked = marked-by (g.B.Disk.state c.args.bench.now) (g.B.Disk.state c.commit.new.disk) all.left.history
            all.left.counts c.requires.up.marked;
      },
      (
        ap (λ (t : Session). t.tree) all.after_is,
        (ap (λ (t : Session). t.changed) all.after_is, record { machine = refl; starts = refl }),
      ),
    )
