use Rattle.std.proofs.Common.{◌≡◌, take}
use Rattle.std.specs.Prelude.{filter}
use Rattle.safe_boot.specs.Listed.{stays}
use Rattle.safe_boot.proofs.reducing.staying.Given as goal

abbrev pub invariant-loop-key : goal.invariant-loop-key
invariant-loop-key l = l.made ≡ filter (stays l.images l.names) (take l.key-index l.keys)
