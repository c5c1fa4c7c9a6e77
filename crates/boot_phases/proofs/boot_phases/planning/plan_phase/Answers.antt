use Rattle.boot_phases.specs.boot_phases.Phases.{phase_in}
use Rattle.boot_phases.proofs.PlanLemmas.{planned, planned_apart}
use Rattle.boot_phases.proofs.boot_phases.planning.plan_phase.Goals as goal

pub returns : goal.returns
returns c =
    planned c.args.set.now (phase_in c.args.phase) c.args.tried.now c.in_ok-table.table c.in_ok-orders.orders
    c.in_ok-ranks.ranks.items c.as_slice.result.now c.entries_at.result c.in_ok-table.ensures c.in_ok-orders.ensures
    c.in_ok-ranks.ensures c.as_slice.ensures.value c.entries_at.ensures

pub entries_at-requires : goal.entries_at-requires
entries_at-requires c =
    planned_apart c.args.set.now (phase_in c.args.phase) c.args.tried.now c.in_ok-table.table c.in_ok-orders.orders
    c.in_ok-ranks.ranks.items c.as_slice.result.now c.in_ok-table.ensures c.in_ok-orders.ensures c.in_ok-ranks.ensures
    c.as_slice.ensures.value
