use Rattle.boot_phases.specs.boot_phases.Phases.{phase_in}
use Rattle.boot_machine.proofs.StartLemmas.{planned_by}
use Rattle.boot_machine.proofs.boot_machine.start.planned_listed.Goals as goal

pub returns : goal.returns
returns c =
    planned_by c.new.result c.args.lists.now (phase_in c.args.phase) c.args.tried.now c.args.started.now
    c.in_ok-entries.entries c.into_vec.result.items c.in_ok-entries.ensures.plan c.into_vec.ensures c.new.ensures
