use Rattle.std.proofs.Common.{◌≡◌, Option, Some, refl, sym, ap, ◌∙◌, rules}
use Rattle.boot_machine.specs.boot_machine.Views.{event_in}
use Rattle.start_model.specs.EventActs.{accepted_act}
use Rattle.start_model.specs.Machine as machine
use Rattle.start_model.specs.Act.{RunState}
use Rattle.boot_run.specs.Agrees.{Counts}
use Rattle.boot_run.proofs.PlayLemmas.{plays-as, plays-ok, plays-err, started, turns}
use Rattle.boot_run.proofs.TurnLemmas.{other_runs}
use Rattle.boot_run.proofs.turning.running.Given.{Over}
use Rattle.boot_run.proofs.turning.running.Goals as goal
use Rattle.boot_run.proofs.turning.running.Goals.{Start}

on : (g : Over) (c : Start g) {m : RunState} → Counts m c.args.runner.now
    → (s : machine.Start) × (m.machine.start ≡ Some s)
on g c counts = started c.args.hive.tree counts c.requires.sound.1

pub returns-in-Go : goal.returns-in-Go
returns-in-Go g c = λ choice. turns (search rules) (search rules) (λ m tells counts by.
    let s = on g (goal.at.returns-in-Go g c).Start counts in
    rw (c.in-Go.is, s.1) (rw s.1 at (c.go.ensures.plays m tells counts by)))

pub returns-in-Flush : goal.returns-in-Flush
returns-in-Flush g c = λ choice. turns (search rules) (search rules) (λ m tells counts by.
    let s = on g (goal.at.returns-in-Flush g c).Start counts in
    rw (c.in-Flush.is, s.1) (rw s.1 at (c.flush.ensures.plays m tells counts by)))

pub returns-in-Logon : goal.returns-in-Logon
returns-in-Logon g c = λ choice. turns (search rules) (search rules) (λ m tells counts by.
    let s = on g (goal.at.returns-in-Logon g c).Start counts in
    rw (c.in-Logon.is, s.1) (rw s.1 at (c.logon.ensures.plays m tells counts by)))

pub returns-in-Ok : goal.returns-in-Ok
returns-in-Ok g c = λ choice. turns (search rules) (search rules) (λ m tells counts by.
    let s = on g (goal.at.returns-in-Ok g c).Start counts in
    rw (c.in-Off.is, s.1) (plays-ok (rw s.1 at (c.in-Ok.ensures.plays m tells counts by)) (λ rest h. h)))

pub returns-in-Err : goal.returns-in-Err
returns-in-Err g c = λ choice. turns (search rules) (search rules) (λ m tells counts by.
    let s = on g (goal.at.returns-in-Err g c).Start counts in
    rw (c.in-Off.is, s.1) (plays-err refl (rw s.1 at (c.in-Err.ensures.plays m tells counts by))))

pub returns-in-Ok-cut : goal.returns-in-Ok-cut
returns-in-Ok-cut g c = λ choice. turns (search rules) (search rules) (λ m tells counts by.
    let s = on g (goal.at.returns-in-Ok-cut g c).Start counts in
    rw (c.in-CutNow.is, s.1) (plays-ok (c.in-Ok-cut.ensures.plays m tells counts by) (λ rest h. h)))

pub returns-in-Err-cut : goal.returns-in-Err-cut
returns-in-Err-cut g c = λ choice. turns (search rules) (search rules) (λ m tells counts by.
    let s = on g (goal.at.returns-in-Err-cut g c).Start counts in
    rw (c.in-CutNow.is, s.1) (plays-err refl (c.in-Err-cut.ensures.plays m tells counts by)))

pub returns-in-Set : goal.returns-in-Set
returns-in-Set g c = c.edit_by.ensures

pub returns-in-Delete : goal.returns-in-Delete
returns-in-Delete g c = c.edit_by-in-Delete.ensures

pub returns-in-Make : goal.returns-in-Make
returns-in-Make g c = c.edit_by-in-Make.ensures

pub returns-in-Remove : goal.returns-in-Remove
returns-in-Remove g c = c.edit_by-in-Remove.ensures

pub returns-in_default : goal.returns-in_default
returns-in_default g c = λ choice. turns (search rules) (c.beside.ensures.host (g.H.Host.state c.args.host.now)) (λ m tells counts by.
    let s = on g (goal.at.returns-in_default g c).Start counts in
    let not = c.in_default in
    plays-as (other_runs choice s.0 c.args.event.now m (record {
      go = not.not-Go;
      flush = not.not-Flush;
      logon = not.not-Logon;
      off = not.not-Off;
      cut = not.not-CutNow;
      set = not.not-Set;
      delete = not.not-Delete;
      make = not.not-Make;
      remove = not.not-Remove;
    }) ∙ ap (λ (o : Option machine.Start). accepted_act choice o (event_in c.args.event.now) m) (sym s.1))
    (c.beside.ensures.plays m (g.H.Host.state c.args.host.now) (record { counts = counts; by = by })))
