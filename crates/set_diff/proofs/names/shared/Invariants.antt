use Rattle.std.proofs.Common.{◌≡◌, take, filter}
use Rattle.set_diff.specs.Listed.{has}
use Rattle.set_diff.proofs.names.shared.Given as goal

abbrev pub invariant-loop-name : goal.invariant-loop-name
invariant-loop-name l = l.both ≡ filter (has l.others) (take l.name-index l.names)
