use Rattle.std.proofs.Common.{◌≡◌, take}
use Rattle.failure_effects.proofs.switching.copied_keys.Given as goal

abbrev pub invariant-loop-key : goal.invariant-loop-key
invariant-loop-key l = l.made ≡ take l.key-index l.keys
