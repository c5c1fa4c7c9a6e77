use Rattle.std.proofs.Common.{◌≡◌, take}
use Rattle.select_keys.proofs.NumberLemmas.{numbers_named}
use Rattle.select_keys.proofs.taken.sets_named.Given as goal

abbrev pub invariant-loop-name : goal.invariant-loop-name
invariant-loop-name l = l.taken ≡ numbers_named (take l.name-index l.names)
