use Rattle.std.proofs.Common.{◌≡◌, take}
use Rattle.std.specs.Option.{option_copied}
use Rattle.service_control.specs.Needed.{missing_in}
use Rattle.service_control.proofs.needed.missing.Given as goal

abbrev pub invariant-loop-member : goal.invariant-loop-member
invariant-loop-member l = option_copied l.best ≡ missing_in l.index (take l.member-index l.members)
