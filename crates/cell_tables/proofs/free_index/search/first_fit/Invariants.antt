use Rattle.cell_tables.specs.free_index.Sizes.{AreUnder}
use Rattle.cell_tables.proofs.free_index.search.first_fit.Given as goal

abbrev pub invariant-loop-place : goal.invariant-loop-place
invariant-loop-place g l = AreUnder l.size (g.N.Numbers.numbers l.list) l.from l.place
