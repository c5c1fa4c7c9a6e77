use Rattle.std.proofs.Common.{Bool, ap, List, ℕ, ◌++◌, ◌∙◌}
use Rattle.hive_cells.specs.Sources.{cells_of}
use Rattle.edited_cells.specs.Owned.{class_cell_at}
use Rattle.edited_cells.specs.Uses.{plain}
use Rattle.hive_look.proofs.UsesLemmas.{nothing_more, no_class, one_class}
use Rattle.hive_look.proofs.uses.push_class.Goals as goal

pub returns-then-size-eq0 : goal.returns-then-size-eq0
returns-then-size-eq0 c =
    let cells = cells_of c.args.cells.now in
    nothing_more c.args.uses.now.items (plain (class_cell_at cells c.args.at))
    (no_class cells c.args.at c.node_at-node.result.now c.u16_at-size.result c.requires c.node_at-node.ensures.value
    c.u16_at-size.ensures c.if-size-eq0.true)

pub returns : goal.returns
returns c =
    let cells = cells_of c.args.cells.now in
    c.in_ok-push.ensures.items
    ∙ ap (λ (l : List (ℕ × Bool)). c.args.uses.now.items ++ l)
    (one_class cells c.args.at c.node_at-node.result.now c.u16_at-size.result c.u32_at-class.result c.requires
    c.node_at-node.ensures.value c.u16_at-size.ensures c.if-size-eq0.false c.u32_at-class.ensures)
