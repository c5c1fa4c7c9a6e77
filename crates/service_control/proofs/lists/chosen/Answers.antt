use Rattle.std.proofs.Common.{◌≡◌, List, ap, ◌∙◌, subst}
use Rattle.std.specs.Prelude.{IfOk, slice_get}
use Rattle.std.specs.List.{filter_map}
use Rattle.start_model.specs.Demand.{Need}
use Rattle.service_control.proofs.StepLemmas.{picked_places}
use Rattle.service_control.proofs.lists.chosen.Goals as goal

pub returns : goal.returns
returns c =
    let P : List Need → Type 0 = λ l. IfOk c.picked.result (λ n. n ≡ l) in
    subst P (ap (filter_map (slice_get c.args.needs.now)) (c.as_slice.ensures ∙ c.in_ok-places.ensures)
    ∙ picked_places c.args.flags.now c.args.needs.now) c.picked.ensures
