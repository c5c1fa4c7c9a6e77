use Rattle.std.proofs.Common.{◌≡◌, take}
use Rattle.select_keys.proofs.NumberLemmas.{numbers_among}
use Rattle.select_keys.proofs.taken.sets_in.Given as goal

abbrev pub invariant-loop-child : goal.invariant-loop-child
invariant-loop-child l = l.taken ≡ numbers_among (take l.child-index l.child-items)
