use Rattle.std.proofs.Common.{take, filter}
use Rattle.start_model.specs.Demand.{member}
use Rattle.wait_cycles.specs.Classes.{which, Numbers}
use Rattle.wait_cycles.proofs.walks.number_all.Given as goal

abbrev pub invariant-loop-at : goal.invariant-loop-at
invariant-loop-at l = Numbers l.number (filter (member (which l.key l.keys)) (take l.at-index l.row))
    l.initial.numbers.items l.initial.work.items l.numbers.items l.work.items
