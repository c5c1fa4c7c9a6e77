use Rattle.std.proofs.Common.{◌≡◌, true, false, ◌||◌, nat_eq, length, sym, ap, ◌∙◌}
use Rattle.std.specs.Prelude.{slice_get}
use Rattle.std.specs.List.{list_any}
use Rattle.std.specs.Option.{option_map_or}
use Rattle.start_model.specs.Demand.{member}
use Rattle.nt_names.specs.name_places.Places.{places_named}
use Rattle.dependencies.proofs.MeetLemmas.{places_below, spared, is_place_named}
use Rattle.dependencies.proofs.meeting.meet_name.Goals as goal

pub first_is_met-requires : goal.first_is_met-requires
first_is_met-requires c =
    rw c.places-places.ensures
    (places_below c.args.name.now c.args.names.now (length c.args.wants.now.met) c.requires.len)

pub returns-then-first_is_met-clause-met : goal.returns-then-first_is_met-clause-met
returns-then-first_is_met-clause-met c =
    let met = c.args.wants.now.met in
    let first : option_map_or (member met) (slice_get (places_named c.args.name.now c.args.names.now) 0) false ≡ true =
    ap (λ ps. option_map_or (member met) (slice_get ps 0) false) (sym c.places-places.ensures)
    ∙ sym c.first_is_met.ensures ∙ c.if-first_is_met.true in
    spared c.args.name.now c.args.names.now met c.requires.together first

pub meet-requires-clause-within : goal.meet-requires-clause-within
meet-requires-clause-within c =
    rw c.places-places.ensures
    (places_below c.args.name.now c.args.names.now (length c.args.wants.now.met) c.requires.len)

pub returns-clause-met : goal.returns-clause-met
returns-clause-met c =
    let met = c.args.wants.now.met in
    λ k lt.
    c.meet.ensures.met k (rw c.requires.len lt)
    ∙ ap (λ ps. member met k || list_any (nat_eq k) ps) c.places-places.ensures
    ∙ ap (λ b. member met k || b) (is_place_named c.args.name.now c.args.names.now k lt)
