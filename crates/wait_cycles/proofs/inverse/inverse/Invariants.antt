use Rattle.wait_cycles.proofs.InverseLemmas.{IsTurned}
use Rattle.wait_cycles.proofs.inverse.inverse.Given as goal

abbrev pub invariant-loop-from : goal.invariant-loop-from
invariant-loop-from l = IsTurned l.rows l.from l.back.items
