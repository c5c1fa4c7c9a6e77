use Rattle.std.proofs.Common.{◌≡◌, take}
use Rattle.service_list.specs.Overrides.{overrides_in}
use Rattle.service_list.proofs.overrides.overrides_in.Given as goal

abbrev pub invariant-loop-value : goal.invariant-loop-value
invariant-loop-value l = l.overrides ≡ overrides_in (take l.value-index l.values)
