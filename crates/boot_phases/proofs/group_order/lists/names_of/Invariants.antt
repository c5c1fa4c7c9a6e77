use Rattle.std.proofs.Common.{◌≡◌, map, take}
use Rattle.boot_phases.proofs.group_order.lists.names_of.Given as goal

abbrev pub invariant-loop-value : goal.invariant-loop-value
invariant-loop-value l = l.names ≡ map (λ v. v.name) (take l.value-index l.values)
