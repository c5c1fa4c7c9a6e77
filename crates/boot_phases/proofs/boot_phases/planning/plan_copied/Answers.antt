use Rattle.boot_phases.specs.boot_phases.Phases.{phase_in}
use Rattle.boot_phases.proofs.PlanLemmas.{copied}
use Rattle.boot_phases.proofs.boot_phases.planning.plan_copied.Goals as goal

pub returns : goal.returns
returns c =
    copied (phase_in c.args.phase) c.args.tried.now c.args.table.now c.args.orders.now c.in_ok-ranks.ranks.items
    c.as_slice.result.now c.copies_at.result c.in_ok-ranks.ensures c.as_slice.ensures.value c.copies_at.ensures
