use Rattle.std.proofs.Common.{ℕ, ◌<◌, ◌^◌, List, [], ◌∷◌, ◌++◌, length, map, take, sym, ap, ◌∙◌}
use Rattle.std.proofs.lemmas.List.{map_more}
use Rattle.std.proofs.lemmas.List.Elements.{All-push}
use Rattle.start_model.specs.Order.{GroupOrder, order_of}
use Rattle.boot_phases.proofs.group_order.order.each_order.Goals as goal

pub loop-name-preserved : goal.loop-name-preserved
loop-name-preserved c =
    let at = c.loop-name in
    let names : List (List ℕ) = c.args.groups.now in
    let name : List ℕ = c.name-item.result in
    let order = order_of c.args.lists.now in
    let read = c.in_ok-read_order in
    let few = λ (o : GroupOrder). length o.tags < 2 ^ 32 in
    record {
      items =
          c.in_ok-push.ensures.items ∙ ap (λ os. os ++ read.field-0 ∷ []) at.invariant.items
          ∙ ap (λ o. map order (take at.name-index names) ++ o ∷ []) (read.ensures.order ∙ ap order c.name-item.is)
          ∙ sym (map_more order names at.name-index name c.loop-name-test.true);
      few = rw c.in_ok-push.ensures.items (All-push few at.items.items read.field-0 at.invariant.few read.ensures.few);
    }
