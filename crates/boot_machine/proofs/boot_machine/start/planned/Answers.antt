use Rattle.boot_phases.specs.boot_phases.Phases.{phase_in}
use Rattle.boot_phases.proofs.FewLemmas.{plan_few}
use Rattle.boot_machine.proofs.boot_machine.start.planned.Goals as goal

pub new-requires : goal.new-requires
new-requires c = rw (c.into_vec.ensures, c.in_ok-entries.ensures)
    (plan_few c.args.set.now (phase_in c.args.phase) c.args.tried.now c.requires)
