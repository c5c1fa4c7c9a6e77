use Rattle.std.proofs.Common.{◌≡◌, take, map}
use Rattle.std.specs.Option.{option_copied}
use Rattle.set_diff.specs.Sets.{order_again}
use Rattle.set_diff.proofs.groups.with_tags.Given as goal

abbrev pub invariant-loop-order : goal.invariant-loop-order
invariant-loop-order l = l.groups.items ≡ map (order_again (option_copied l.lists)) (take l.order-index l.orders)
