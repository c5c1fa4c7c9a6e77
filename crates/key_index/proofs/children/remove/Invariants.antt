use Rattle.std.proofs.Common.{◌≡◌, take}
use Rattle.key_index.specs.Lists.{without_child}
use Rattle.key_index.proofs.children.remove.Given as goal

abbrev pub invariant-loop-at : goal.invariant-loop-at
invariant-loop-at l = l.all.items ≡ without_child l.child (take l.at-index l.offsets)
