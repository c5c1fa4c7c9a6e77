use Rattle.std.proofs.Common.{ap}
use Rattle.start_model.specs.Machine.{MachineState}
use Rattle.boot_run.proofs.CommitLemmas.{loads_down}
use Rattle.boot_run.proofs.PlayLemmas.{plays-ok, plays-err, plays-here, on_left, live_left}
use Rattle.boot_run.proofs.StartLemmas.{judged_goes, judged_plays}
use Rattle.boot_run.proofs.starter.end_where.Goals as goal

pub returns-in-None-clause-plays : goal.returns-in-None-clause-plays
returns-in-None-clause-plays g c = λ m next j tells counts live ends.
    plays-here (judged_goes j m next (rw c.in-None.is at ends)) (on_left next counts live)

pub returns-in_err-end_with-in-Some-clause-plays : goal.returns-in_err-end_with-in-Some-clause-plays
returns-in_err-end_with-in-Some-clause-plays g c = λ m next j tells counts live ends.
    plays-err {stop = c.in_err-end_with-in-Some.field-0.0} c.from_residual.ensures.0
    (judged_plays c.in-Some.word j next c.end_with.new.runner (rw c.in-Some.is at ends) counts
    (live_left c.requires.sound.0 live) c.end_with.ensures.machine c.end_with.ensures.starts c.end_with.ensures.off
    (c.in_err-end_with-in-Some.ensures.tells tells))

pub returns-in_ok-end_with-in-Some-clause-sound : goal.returns-in_ok-end_with-in-Some-clause-sound
returns-in_ok-end_with-in-Some-clause-sound g c = (
  loads_down (g.B.Disk.state c.args.bench.now) (g.B.Disk.state c.end_with.new.bench) c.requires.sound.0.still
      c.requires.sound.0.loads c.end_with.ensures.off,
  ap (λ (k : MachineState). k.start) c.end_with.ensures.machine,
)

pub returns-in_ok-end_with-in-Some-clause-plays : goal.returns-in_ok-end_with-in-Some-clause-plays
returns-in_ok-end_with-in-Some-clause-plays g c = λ m next j tells counts live ends.
    plays-ok {v = tt} (judged_plays c.in-Some.word j next c.end_with.new.runner (rw c.in-Some.is at ends) counts
    (live_left c.requires.sound.0 live) c.end_with.ensures.machine c.end_with.ensures.starts c.end_with.ensures.off
    (c.in_ok-end_with-in-Some.ensures.tells tells)) (λ rest k. k)
