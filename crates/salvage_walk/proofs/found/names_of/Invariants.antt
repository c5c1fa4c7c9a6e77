use Rattle.std.proofs.Common.{◌≡◌, take}
use Rattle.salvage_walk.specs.Keys.{key_names}
use Rattle.salvage_walk.proofs.found.names_of.Given as goal

abbrev pub invariant-loop-key : goal.invariant-loop-key
invariant-loop-key l = l.taken ≡ key_names (take l.key-index l.keys)
