use Rattle.std.proofs.Common.{◌∙◌, sym, subst, arith}
use Rattle.std.specs.List.{All}
use Rattle.key_index.specs.Lists.{IsNode}
use Rattle.hive_cells.specs.Sources.{cells_of}
use Rattle.hive_look.proofs.NodeLemmas.{node_long, siblings_here, children_here, kids_are_nodes}
use Rattle.hive_look.proofs.children.children.Goals as goal
use Rattle.std.proofs.lemmas.Result.{IfOk-weaker}

pub u32_at-list-requires : goal.u32_at-list-requires
u32_at-list-requires c = omega
    (arith, node_long (cells_of c.args.cells.now) c.args.at c.payload-node.result.now c.requires c.payload-node.ensures)

pub u32_at-count-requires : goal.u32_at-count-requires
u32_at-count-requires c =
    omega (
      arith,
      node_long (cells_of c.args.cells.now)
          c.args.at c.payload-node.result.now c.requires c.payload-node.ensures,
    )

pub listed-requires : goal.listed-requires
listed-requires c =
    siblings_here (cells_of c.args.cells.now)
    c.args.at c.payload-node.result.now c.u32_at-list.result c.u32_at-count.result
    c.requires c.payload-node.ensures c.u32_at-list.ensures c.u32_at-count.ensures

pub returns : goal.returns
returns c =
    let cells = cells_of c.args.cells.now in
    let same = children_here cells c.args.at c.payload-node.result.now c.u32_at-list.result c.u32_at-count.result
    c.requires c.payload-node.ensures c.u32_at-list.ensures c.u32_at-count.ensures in
    record {
      places = IfOk-weaker c.listed.result _ _ (λ v e. e ∙ same) c.listed.ensures;
      nodes = IfOk-weaker c.listed.result _ _
          (λ v e. subst (All (IsNode cells)) (sym (e ∙ same)) (kids_are_nodes cells c.args.at c.requires))
          c.listed.ensures;
    }
