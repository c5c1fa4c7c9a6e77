use Rattle.std.proofs.Common.{take}
use Rattle.least_set.specs.Work.{Marks}
use Rattle.least_set.proofs.marks.mark_all.Given as goal

abbrev pub invariant-loop-at : goal.invariant-loop-at
invariant-loop-at l = Marks (take l.at-index l.row) l.initial.marks.items l.initial.work.items l.marks.items l.work.items
