use Rattle.std.proofs.Common.{take}
use Rattle.wait_cycles.specs.Graph.{Settles}
use Rattle.wait_cycles.specs.Working.{AreFirsts}
use Rattle.wait_cycles.proofs.met.settle_all.Given as goal

abbrev pub invariant-loop-at : goal.invariant-loop-at
invariant-loop-at l = record {
  settled : Settles l.rows l.places (take l.at-index l.us) l.initial.marks.items l.initial.work.items l.marks.items l.work.items;
  firsts : AreFirsts l.rows l.marks.items l.firsts.items;
}
