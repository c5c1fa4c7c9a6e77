use Rattle.std.proofs.Common.{◌≡◌, ◌++◌, take, drop}
use Rattle.std.specs.Prelude.{map}
use Rattle.reg_tree.specs.Order.{lowered}
use Rattle.reg_tree.proofs.value_places.lower_behind.Given as goal

abbrev pub invariant-loop-k : goal.invariant-loop-k
invariant-loop-k l = l.order.items ≡ map (lowered l.at) (take l.k l.initial.order.items)
    ++ drop l.k l.initial.order.items
