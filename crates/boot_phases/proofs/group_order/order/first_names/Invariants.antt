use Rattle.std.proofs.Common.{◌≡◌, take}
use Rattle.start_model.specs.Order.{first_names}
use Rattle.boot_phases.proofs.group_order.order.first_names.Given as goal

abbrev pub invariant-loop-place : goal.invariant-loop-place
invariant-loop-place l = l.first ≡ first_names (take l.place l.name-items)
