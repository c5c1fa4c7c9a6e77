use Rattle.std.proofs.Common.{◌≡◌, take, filter}
use Rattle.service_check.specs.Check.{is_unlisted}
use Rattle.service_check.proofs.groups.unlisted_among.Given as goal

abbrev pub invariant-loop-group : goal.invariant-loop-group
invariant-loop-group l = l.unlisted ≡ filter (is_unlisted l.orders) (take l.group-index l.groups)
