use Rattle.std.proofs.Common.{arith}
use Rattle.boot_phases.proofs.UntriedLemmas.{length-needs_at}
use Rattle.boot_phases.proofs.boot_phases.untried.Untried.in_table.Goals as goal

pub returns-clause-few : goal.returns-clause-few
returns-clause-few c =
    let inside = c.self.inside in
    rw (← c.self.view_is) (omega
    (arith, length-needs_at inside.table.now inside.places c.self.invariant.within, c.self.invariant.few))
