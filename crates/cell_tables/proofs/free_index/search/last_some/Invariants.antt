use Rattle.std.proofs.Common.{◌≤◌}
use Rattle.cell_tables.specs.free_index.Sizes.{AreUpTo}
use Rattle.cell_tables.proofs.free_index.search.last_some.Given as goal

abbrev pub invariant-loop-end : goal.invariant-loop-end
invariant-loop-end g l = record {
  ordered : l.from ≤ l.end;
  inside : l.end ≤ l.to;
  none : AreUpTo 0 (g.N.Numbers.numbers l.list) l.end l.to;
}

abbrev pub decreases-loop-end : goal.decreases-loop-end
decreases-loop-end g l = l.end
