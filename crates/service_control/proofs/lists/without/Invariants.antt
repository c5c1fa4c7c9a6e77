use Rattle.std.proofs.Common.{◌≡◌, take, filter, not}
use Rattle.nt_bytes.specs.Folding.{folds_same}
use Rattle.service_control.proofs.lists.without.Given as goal

abbrev pub invariant-loop-need : goal.invariant-loop-need
invariant-loop-need l = l.made ≡ filter (λ n. not (folds_same l.name n.name)) (take l.need-index l.needs)
