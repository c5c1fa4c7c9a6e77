use Rattle.std.proofs.Common.{Bool, ap, List, ℕ, ◌++◌, ◌∙◌}
use Rattle.hive_model.specs.Footprint.{security_cell_at}
use Rattle.hive_cells.specs.Sources.{cells_of}
use Rattle.edited_cells.specs.Uses.{secure}
use Rattle.hive_look.proofs.UsesLemmas.{nothing_more, no_security, one_security}
use Rattle.hive_look.proofs.uses.push_security.Goals as goal

pub returns-then-security : goal.returns-then-security
returns-then-security c =
    let cells = cells_of c.args.cells.now in
    nothing_more c.args.uses.now.items (secure (security_cell_at cells c.args.at))
    (no_security cells c.args.at c.node_at-node.result.now c.u32_at-security.result c.requires
    c.node_at-node.ensures.value c.u32_at-security.ensures c.if-security.true)

pub returns : goal.returns
returns c =
    let cells = cells_of c.args.cells.now in
    c.in_ok-push.ensures.items
    ∙ ap (λ (l : List (ℕ × Bool)). c.args.uses.now.items ++ l)
    (one_security cells c.args.at c.node_at-node.result.now c.u32_at-security.result c.requires
    c.node_at-node.ensures.value c.u32_at-security.ensures c.if-security.false)
