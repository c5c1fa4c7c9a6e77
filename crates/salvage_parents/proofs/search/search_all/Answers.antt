use Rattle.salvage_bins.specs.Ground.{ground_of}
use Rattle.salvage_parents.proofs.search.search_all.Goals as goal

pub search-requires-clause-remembered : goal.search-requires-clause-remembered
search-requires-clause-remembered c = c.new-lists.ensures (ground_of c.args.cells.now)
