use Rattle.std.proofs.Common.{◌∙◌, sym, subst}
use Rattle.hive_store.specs.Session.{Session}
use Rattle.start_model.specs.Machine.{MachineState}
use Rattle.boot_run.specs.Agrees.{IsRunningBy}
use Rattle.boot_run.specs.Kept.{current_set, AreRead}
use Rattle.boot_run.proofs.StartLemmas.{phase_keeps, planned_next, taken_running}
use Rattle.boot_run.proofs.starter.plan_phase.Goals as goal

pub take_lists-requires : goal.take_lists-requires
take_lists-requires c =
    taken_running c.args.runner.now.machine.start c.args.hive.now.tree (c.in-Some.number, c.in-Some.field-0-1)
    (sym c.running.ensures ∙ c.in-Some.is) c.requires

pub keep-requires : goal.keep-requires
keep-requires c =
    let P : Session → Type 0 = λ s. AreRead (current_set s.tree) c.in-Ok.lists in
    subst P (sym c.take_lists.ensures.session) c.in-Ok.ensures.lists

pub returns-clause-next : goal.returns-clause-next
returns-clause-next c =
    let tree = c.args.hive.now.tree in
    planned_next c.args.runner.now.machine c.next_phase_listed.new.self tree c.requires
    (c.in-Ok-next_phase_listed.ensures.machine (current_set tree) c.in-Ok.ensures.lists.read)

pub returns-clause-sound : goal.returns-clause-sound
returns-clause-sound c =
    let tree = c.args.hive.now.tree in
    let read = c.in-Ok.ensures.lists in
    let P : MachineState → Type 0 = λ k. IsRunningBy k.start tree in
    subst P (sym (c.in-Ok-next_phase_listed.ensures.machine (current_set tree) read.read))
    (phase_keeps c.args.runner.now.machine.start (current_set tree) tree read.held c.requires)
