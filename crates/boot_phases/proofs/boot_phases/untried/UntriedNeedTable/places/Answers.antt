use Rattle.std.proofs.Common.{◌∙◌}
use Rattle.boot_phases.proofs.UntriedLemmas.{found_places}
use Rattle.boot_phases.proofs.boot_phases.untried.UntriedNeedTable.places.Goals as goal

pub returns : goal.returns
returns c =
    let inside = c.self.inside in
    c.index_found.ensures
    ∙ rw (← c.self.view_is) (found_places c.args.name.now inside.table.now inside.places c.in_ok-found.found
    c.self.invariant.within c.in_ok-found.ensures)
