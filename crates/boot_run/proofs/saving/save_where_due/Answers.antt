use Rattle.std.proofs.Common.{◌≡◌, ◌∙◌, false, sym, refl, ap, Option, Some, None}
use Rattle.std.specs.Prelude.{option_and_then}
use Rattle.std.specs.Option.{option_map_or}
use Rattle.start_model.specs.Machine.{MachineState, Start, save_due}
use Rattle.boot_machine.specs.boot_machine.Steps.{on_start}
use Rattle.start_model.specs.Act.{RunState}
use Rattle.boot_run.specs.Agrees.{IsSound, Counts}
use Rattle.boot_run.proofs.PlayLemmas.{plays-as, plays-here, on_left}
use Rattle.boot_run.proofs.SaveLemmas.{live_machine}
use Rattle.boot_run.proofs.DueLemmas.{not_due, due, due_none, without_clone, taken, taken_on, none_taken, start_by}
use Rattle.boot_run.proofs.saving.save_where_due.Given.{Over}
use Rattle.boot_run.proofs.saving.save_where_due.Goals as goal
use Rattle.boot_run.proofs.saving.save_where_due.Goals.{After-save_due, After-take_clone}

-- whether a save is due, by the machine of the state
due_is : (g : Over) (c : After-save_due g) {m : RunState} → Counts m c.args.runner.now
    → option_map_or save_due m.machine.start false ≡ c.save_due.result
due_is g c counts =
    ap (λ (k : MachineState). option_map_or save_due k.start false) counts.machine ∙ sym c.save_due.ensures

-- the runner is sound without the clone
sound : (g : Over) (c : After-take_clone g) → IsSound (record c.args.runner.now { machine = c.take_clone.new.self })
    (g.B.Disk.state c.args.bench.now) (Some c.args.hive)
sound g c = start_by without_clone c.args.runner.now (record c.args.runner.now { machine = c.take_clone.new.self })
    (g.B.Disk.state c.args.bench.now) c.args.hive (λ o h. taken_on o c.args.hive.tree h) c.take_clone.ensures.taken
    c.requires.sound

pub returns-then-not-save_due-clause-plays : goal.returns-then-not-save_due-clause-plays
returns-then-not-save_due-clause-plays g c = λ m next tells counts live stays.
    plays-here (not_due m.machine.start m next
    (due_is g (goal.at.returns-then-not-save_due-clause-plays g c).After-save_due counts ∙ c.if-not-save_due.true))
    (on_left next counts live)

pub save-requires-clause-sound : goal.save-requires-clause-sound
save-requires-clause-sound g c = sound g (goal.at.save-requires-clause-sound g c).After-take_clone

pub returns-in-Some-clause-plays : goal.returns-in-Some-clause-plays
returns-in-Some-clause-plays g c = λ m next tells counts live stays.
    let has : option_and_then (λ (s : Start). s.clone) m.machine.start ≡ Some c.in-Some.clone =
    ap (λ (k : MachineState). option_and_then (λ (s : Start). s.clone) k.start) counts.machine
    ∙ sym c.take_clone.ensures.clone ∙ c.in-Some.is in
    let q = due m.machine.start m next c.in-Some.clone refl
    (due_is g (goal.at.returns-in-Some-clause-plays g c).After-save_due counts ∙ c.if-not-save_due.false) has in
    plays-as q.act (c.save.ensures.plays (taken m) q.start next tells q.out (record {
      machine = ap (on_start without_clone) counts.machine ∙ sym c.take_clone.ensures.taken;
      starts = counts.starts;
    }) (live_machine (taken m).machine live) stays)

pub returns-in-None-clause-sound : goal.returns-in-None-clause-sound
returns-in-None-clause-sound g c = sound g (goal.at.returns-in-None-clause-sound g c).After-take_clone

pub returns-in-None-clause-plays : goal.returns-in-None-clause-plays
returns-in-None-clause-plays g c = λ m next tells counts live stays.
    let r = c.args.runner.now in
    let none : option_and_then (λ (s : Start). s.clone) r.machine.start ≡ None =
    sym c.take_clone.ensures.clone ∙ c.in-None.is in
    let kept : c.take_clone.new.self ≡ r.machine =
    c.take_clone.ensures.taken
    ∙ ap (λ (o : Option Start). record r.machine { start = o }) (none_taken r.machine.start none) in
    plays-here (due_none m.machine.start m next
    (ap (λ (k : MachineState). option_and_then (λ (s : Start). s.clone) k.start) counts.machine ∙ none))
    (on_left next (record { machine = counts.machine ∙ sym kept; starts = counts.starts }) live)
