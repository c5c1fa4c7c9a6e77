use Rattle.hive_cells.specs.Sources.{cells_of}
use Rattle.hive_look.proofs.NodeLemmas.{node_long}
use Rattle.hive_look.proofs.uses.node_at.Goals as goal

pub returns-clause-long : goal.returns-clause-long
returns-clause-long c = node_long (cells_of c.args.cells.now)
    c.args.at c.payload.result.now c.requires c.payload.ensures
