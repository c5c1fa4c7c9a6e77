use Rattle.std.proofs.Common.{◌≡◌, true, false, sym, ◌∙◌}
use Rattle.std.specs.Prelude.{slice_get}
use Rattle.std.specs.Option.{option_map_or}
use Rattle.start_model.specs.Demand.{member}
use Rattle.failure_effects.proofs.NearLemmas.{seen_adds, seen_after}
use Rattle.failure_effects.proofs.givers.push_givers.Goals as goal

pub returns-then-first_is_seen-clause-adds : goal.returns-then-first_is_seen-clause-adds
returns-then-first_is_seen-clause-adds c =
    let first : option_map_or (member c.as_slice.result.now) (slice_get c.places-wants.result.now 0) false ≡ true =
    sym c.first_is_seen.ensures ∙ c.if-first_is_seen.true in
    seen_adds c.args.givers.now c.args.rest.now c.args.seen.now.items c.args.found.now.items c.args.name.now c.requires
    ((λ j. option_map_or (member (sym c.as_slice.ensures.value j)) (slice_get (sym c.places-wants.ensures j) 0) false) ∙ first)

pub returns-clause-seen : goal.returns-clause-seen
returns-clause-seen c =
    seen_after c.push_left.result c.args.givers.now c.args.rest.now c.args.seen.now.items c.args.found.now.items
    c.push_left.new.found.items c.args.name.now c.as_slice-2.result.now c.places-wants.result.now c.mark_first.new.seen.items
    c.requires c.as_slice-2.ensures c.places-wants.ensures c.mark_first.ensures c.push_left.ensures
