use Rattle.std.proofs.Common.{ap, ◌∙◌, arith}
use Rattle.std.specs.Prelude.{find}
use Rattle.hive_model.specs.Footprint.{is_node_named}
use Rattle.hive_cells.specs.Sources.{cells_of}
use Rattle.hive_look.proofs.NodeLemmas.{node_long, siblings_here, children_here}
use Rattle.hive_look.proofs.PlaceLemmas.{found_stands}
use Rattle.hive_look.proofs.path.child_at.Goals as goal

pub u32_at-list-requires : goal.u32_at-list-requires
u32_at-list-requires c = omega
    (arith, node_long (cells_of c.args.cells.now) c.args.at c.payload-node.result.now c.requires c.payload-node.ensures)

pub u32_at-count-requires : goal.u32_at-count-requires
u32_at-count-requires c =
    omega (
      arith,
      node_long (cells_of c.args.cells.now)
          c.args.at c.payload-node.result.now c.requires c.payload-node.ensures,
    )

pub find_child-requires : goal.find_child-requires
find_child-requires c =
    siblings_here (cells_of c.args.cells.now)
    c.args.at c.payload-node.result.now c.u32_at-list.result c.u32_at-count.result
    c.requires c.payload-node.ensures c.u32_at-list.ensures c.u32_at-count.ensures

pub returns : goal.returns
returns c =
    let cells = cells_of c.args.cells.now in
    let place = c.find_child.ensures ∙ ap (find (is_node_named cells c.args.name.now))
    (children_here cells c.args.at c.payload-node.result.now c.u32_at-list.result c.u32_at-count.result c.requires
    c.payload-node.ensures c.u32_at-list.ensures c.u32_at-count.ensures) in
    record { place = place; stands = found_stands cells c.args.name.now c.args.at c.find_child.result c.requires place }
