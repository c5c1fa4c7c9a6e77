use Rattle.std.proofs.Common.{◌≡◌, take}
use Rattle.dependencies.specs.Work.{names_of}
use Rattle.dependencies.proofs.table.index_of.Given as goal

abbrev pub invariant-loop-need : goal.invariant-loop-need
invariant-loop-need l = l.names ≡ names_of (take l.need-index l.needs)
