use Rattle.std.proofs.Common.{◌≡◌, Some, None, sym, ap, ◌∙◌}
use Rattle.std.specs.Prelude.{slice_get, option_and_then}
use Rattle.std.specs.Option.{option_copied, option_map}
use Rattle.start_model.specs.Entries.{need_of}
use Rattle.boot_phases.proofs.UntriedLemmas.{need_there}
use Rattle.boot_phases.proofs.boot_phases.untried.Untried.entry.Goals as goal

pub returns-in-Some : goal.returns-in-Some
returns-in-Some c =
    let inside = c.self.inside in
    let found : slice_get inside.places c.args.index ≡ Some c.in-Some.place.now =
    sym c.get.ensures ∙ ap option_copied c.in-Some.is in
    ap (option_map need_of) (c.get-in-Some.ensures ∙ sym (ap (option_and_then (slice_get inside.table.now)) found))
    ∙ rw (← c.self.view_is) (need_there inside.table.now inside.places c.args.index c.self.invariant.within)

pub returns-in-None : goal.returns-in-None
returns-in-None c =
    let inside = c.self.inside in
    let none : slice_get inside.places c.args.index ≡ None = sym c.get.ensures ∙ ap option_copied c.in-None.is in
    sym (ap (λ o. option_map need_of (option_and_then (slice_get inside.table.now) o)) none)
    ∙ rw (← c.self.view_is) (need_there inside.table.now inside.places c.args.index c.self.invariant.within)
