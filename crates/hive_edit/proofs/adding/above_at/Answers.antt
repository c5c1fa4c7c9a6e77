use Rattle.std.proofs.Common.{◌≤◌, length, arith}
use Rattle.hive_cells.specs.Sources.{cells_of}
use Rattle.hive_look.proofs.NodeLemmas.{node_long}
use Rattle.hive_edit.proofs.KeyLemmas.{above_is}
use Rattle.hive_edit.proofs.adding.above_at.Goals as goal
use Rattle.hive_edit.proofs.adding.above_at.Goals.{After-payload-node}

long : (c : After-payload-node) → 76 ≤ length c.payload-node.result.now
long c = node_long (cells_of c.args.cells.now) c.args.at c.payload-node.result.now c.requires c.payload-node.ensures

pub u32_at-requires : goal.u32_at-requires
u32_at-requires c = omega (arith, long (goal.at.u32_at-requires c).After-payload-node)

pub u32_at-requires-2 : goal.u32_at-requires-2
u32_at-requires-2 c = omega (arith, long (goal.at.u32_at-requires-2 c).After-payload-node)

pub u32_at-requires-3 : goal.u32_at-requires-3
u32_at-requires-3 c = omega (arith, long (goal.at.u32_at-requires-3 c).After-payload-node)

pub u32_at-requires-4 : goal.u32_at-requires-4
u32_at-requires-4 c = omega (arith, long (goal.at.u32_at-requires-4 c).After-payload-node)

pub returns : goal.returns
returns c = λ n read.
    above_is (cells_of c.args.cells.now) c.args.at c.payload-node.result.now
    (record {
      list = c.u32_at.result;
      count = c.u32_at-2.result;
      volatile = c.u32_at-3.result;
      security = c.u32_at-4.result;
    })
    c.requires c.payload-node.ensures c.u32_at.ensures c.u32_at-2.ensures c.u32_at-3.ensures
    c.u32_at-4.ensures n read
