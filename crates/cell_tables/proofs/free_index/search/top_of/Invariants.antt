use Rattle.cell_tables.specs.free_index.Sizes.{IsTop}
use Rattle.cell_tables.proofs.free_index.search.top_of.Given as goal

abbrev pub invariant-loop-place : goal.invariant-loop-place
invariant-loop-place g l = IsTop (g.N.Numbers.numbers l.list) l.from l.place l.top
