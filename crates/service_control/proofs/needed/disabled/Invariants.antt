use Rattle.std.proofs.Common.{◌≡◌, take}
use Rattle.std.specs.Option.{option_copied}
use Rattle.service_control.specs.Needed.{disabled_in}
use Rattle.service_control.proofs.needed.disabled.Given as goal

abbrev pub invariant-loop-member : goal.invariant-loop-member
invariant-loop-member l = option_copied l.best ≡ disabled_in (take l.member-index l.members)
