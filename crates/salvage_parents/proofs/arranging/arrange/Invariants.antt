use Rattle.std.proofs.Common.{◌≡◌, ◌++◌}
use Rattle.salvage_parents.specs.Arranged.{arranged}
use Rattle.salvage_parents.proofs.arranging.arrange.Given as goal

abbrev pub invariant-keys : goal.invariant-keys
invariant-keys l = l.keys ++ l.rest ≡ arranged l.fn.keys
