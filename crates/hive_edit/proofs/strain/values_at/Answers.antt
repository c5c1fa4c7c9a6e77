use Rattle.std.proofs.Common.{◌∙◌, sym, arith}
use Rattle.hive_cells.specs.Sources.{cells_of}
use Rattle.hive_look.proofs.NodeLemmas.{node_long}
use Rattle.hive_edit.proofs.UnsetLemmas.{node_numbers}
use Rattle.hive_edit.proofs.strain.values_at.Goals as goal

pub u32_at-requires : goal.u32_at-requires
u32_at-requires c = omega
    (arith, node_long (cells_of c.args.cells.now) c.args.at c.payload-node.result.now c.requires c.payload-node.ensures)

pub returns : goal.returns
returns c = λ n read.
    let numbers = node_numbers (cells_of c.args.cells.now)
    c.args.at c.payload-node.result.now n read c.payload-node.ensures in
    c.u32_at.ensures ∙ sym numbers.1
