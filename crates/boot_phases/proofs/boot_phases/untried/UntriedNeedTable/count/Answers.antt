use Rattle.std.proofs.Common.{sym, ◌∙◌}
use Rattle.boot_phases.proofs.UntriedLemmas.{length-needs_at}
use Rattle.boot_phases.proofs.boot_phases.untried.UntriedNeedTable.count.Goals as goal

pub returns : goal.returns
returns c =
    let inside = c.self.inside in
    rw (← c.self.view_is) (c.len.ensures ∙ sym (length-needs_at inside.table.now inside.places c.self.invariant.within))
