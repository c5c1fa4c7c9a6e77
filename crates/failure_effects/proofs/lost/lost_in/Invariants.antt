use Rattle.std.proofs.Common.{◌≡◌, take}
use Rattle.failure_effects.specs.Lost.{lost_in}
use Rattle.failure_effects.proofs.lost.lost_in.Given as goal

abbrev pub invariant-loop-told : goal.invariant-loop-told
invariant-loop-told l = l.names ≡ lost_in (take l.told-index l.plain) l.other l.name
