use Rattle.std.proofs.Common.{arith}
use Rattle.hive_cells.specs.Sources.{cells_of}
use Rattle.hive_look.proofs.NodeLemmas.{node_long}
use Rattle.hive_edit.proofs.KeyLemmas.{stamp_is}
use Rattle.hive_edit.proofs.adding.stamp_at.Goals as goal

pub u64_at-requires : goal.u64_at-requires
u64_at-requires c = omega
    (arith, node_long (cells_of c.args.cells.now) c.args.at c.payload-node.result.now c.requires c.payload-node.ensures)

pub returns : goal.returns
returns c = λ t well.
    stamp_is (cells_of c.args.cells.now)
    c.args.at c.payload-node.result.now c.u64_at.result c.requires c.payload-node.ensures c.u64_at.ensures t well
