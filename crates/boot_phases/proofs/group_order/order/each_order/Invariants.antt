use Rattle.std.proofs.Common.{◌≡◌, ◌<◌, ◌^◌, map, take, length}
use Rattle.std.specs.Prelude.{All}
use Rattle.start_model.specs.Order.{order_of}
use Rattle.boot_phases.proofs.group_order.order.each_order.Given as goal

abbrev pub invariant-loop-name : goal.invariant-loop-name
invariant-loop-name l = record {
  items : l.items.items ≡ map (order_of l.lists) (take l.name-index l.groups);
  few : All (λ o. length o.tags < 2 ^ 32) l.items.items;
}
