use Rattle.std.proofs.Common.{ℕ, Option, ap, ◌∙◌}
use Rattle.std.specs.Prelude.{slice_get}
use Rattle.std.specs.Option.{option_map}
use Rattle.std.specs.List.{filter_map}
use Rattle.start_model.specs.Entries.{taken_of}
use Rattle.start_model.specs.Order.{Rank, rank_of}
use Rattle.boot_phases.specs.boot_phases.Phases.{phase_in}
use Rattle.boot_phases.proofs.PlanLemmas.{ranked}
use Rattle.boot_phases.proofs.boot_phases.planning.ranked.Goals as goal

pub returns : goal.returns
returns c =
    let table = c.args.table.now in
    let orders = c.args.orders.now in
    let h : ℕ → Option Rank = λ p. option_map (rank_of orders c.tags_count.result p) (slice_get table p) in
    ranked (phase_in c.args.phase) c.args.tried.now table orders c.tags_count.result c.in_ok-places.places
    c.in_ok-ranks.ranks.items c.in_order.new.ranks.items c.tags_count.ensures
    (c.in_ok-places.ensures ∙ ap (taken_of table (phase_in c.args.phase)) c.in_ok-tried.ensures)
    (c.in_ok-ranks.ensures ∙ ap (filter_map h) c.as_slice.ensures) c.in_order.ensures
