use Rattle.std.proofs.Common.{◌≡◌, Some, None, sym, ap, ◌∙◌}
use Rattle.std.specs.Prelude.{slice_get}
use Rattle.std.specs.Option.{option_copied}
use Rattle.boot_phases.proofs.UntriedLemmas.{index_is, no_index}
use Rattle.boot_phases.proofs.boot_phases.untried.Untried.index_of.Goals as goal

pub returns-in-Some : goal.returns-in-Some
returns-in-Some c =
    let inside = c.self.inside in
    let led : slice_get inside.indices c.args.place ≡ Some c.in-Some.index.now =
    sym c.get.ensures ∙ ap option_copied c.in-Some.is in
    c.there.ensures
    ∙ rw (← c.self.view_is) (index_is inside.table.now inside.places inside.indices c.args.place c.in-Some.index.now
    c.self.invariant led)

pub returns-in-None : goal.returns-in-None
returns-in-None c =
    let inside = c.self.inside in
    let none : slice_get inside.indices c.args.place ≡ None = sym c.get.ensures ∙ ap option_copied c.in-None.is in
    rw (← c.self.view_is) (no_index inside.table.now inside.places inside.indices c.args.place c.self.invariant none)
