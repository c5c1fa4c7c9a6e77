use Rattle.cell_tables.proofs.TopLemmas.{TopsSoFar}
use Rattle.cell_tables.proofs.free_index.index.FreeIndex.recount.Given as goal

abbrev pub invariant-loop-page : goal.invariant-loop-page
invariant-loop-page g l = TopsSoFar (g.N.Numbers.numbers l.sizes) l.self l.pages l.page
