use Rattle.std.proofs.Common.{sym, ap, subst, ◌∙◌}
use Rattle.std.specs.List.{All}
use Rattle.key_index.specs.Lists.{IsNode, without_child}
use Rattle.hive_cells.specs.Sources.{cells_of}
use Rattle.key_index.proofs.Runs.{without_nodes}
use Rattle.key_index.proofs.change.with_one_less.Goals as goal

pub hints-requires : goal.hints-requires
hints-requires c =
    let cells = cells_of c.args.cells.now in
    let old = c.deref.ensures.value ∙ c.in_ok-old.ensures in
    let children = c.deref-2.ensures.value ∙ c.in_ok-children.ensures ∙ ap (without_child c.args.child) old in
    subst (All (IsNode cells)) (sym children) (without_nodes cells c.args.child _ c.requires.nodes)
