use Rattle.salvage_bins.specs.Ground.{ground_of}
use Rattle.salvage_walk.proofs.root.walk_tree.Goals as goal

pub from_root-requires-clause-remembered : goal.from_root-requires-clause-remembered
from_root-requires-clause-remembered c = c.new-lists.ensures (ground_of c.args.cells.now)
