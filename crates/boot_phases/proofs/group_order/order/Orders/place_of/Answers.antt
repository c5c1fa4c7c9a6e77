use Rattle.std.proofs.Common.{ap, ◌∙◌}
use Rattle.std.specs.Prelude.{position}
use Rattle.nt_bytes.specs.Folding.{folds_same}
use Rattle.start_model.specs.Order.{GroupOrder}
use Rattle.boot_phases.proofs.FirstLemmas.{position-map}
use Rattle.boot_phases.proofs.group_order.order.Orders.place_of.Goals as goal

pub returns-clause-place : goal.returns-clause-place
returns-clause-place c =
    let name = c.args.name.now in
    c.place_of.ensures.place ∙ ap (position (folds_same name)) c.self.invariant.1
    ∙ position-map (folds_same name) (λ (o : GroupOrder). o.name) c.self.inside.items.items
    ∙ ap (position (λ (o : GroupOrder). folds_same name o.name)) c.self.view_is
