use Rattle.std.proofs.Common.{ℕ, List, length, map, sym, ap, ◌∙◌, arith}
use Rattle.std.proofs.lemmas.List.{length-map}
use Rattle.start_model.specs.Order.{GroupOrder, order_of}
use Rattle.boot_phases.proofs.ValueLemmas.{names_of_orders}
use Rattle.boot_phases.proofs.group_order.order.orders_among.Goals as goal

pub invariant_of-result : goal.invariant_of-result
invariant_of-result c =
    let groups : List (List ℕ) = c.args.groups in
    let lists = c.args.lists.now in
    let is = c.in_ok-items.ensures.orders ∙ ap (map (order_of lists)) c.as_slice.ensures in (
      record {
        groups = omega (arith, ap length is, length-map groups (order_of lists), c.requires.few);
        tags = c.in_ok-items.ensures.few;
      },
      c.in_ok-places.ensures ∙ sym (names_of_orders lists groups) ∙ sym (ap (map (λ (o : GroupOrder). o.name)) is),
    )
