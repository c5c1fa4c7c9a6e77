use Rattle.std.proofs.Common.{take}
use Rattle.wait_cycles.specs.Graph.{PutsEdges}
use Rattle.wait_cycles.proofs.inverse.put_edges.Given as goal

abbrev pub invariant-loop-from : goal.invariant-loop-from
invariant-loop-from l = PutsEdges (take l.from-index l.row) l.end l.initial.back.items l.back.items
