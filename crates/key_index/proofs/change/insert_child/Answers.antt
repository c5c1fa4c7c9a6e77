use Rattle.std.proofs.Common.{List, sym, ap, subst, ◌∙◌}
use Rattle.std.specs.List.{All}
use Rattle.std.specs.Option.{IsSome}
use Rattle.hive_model.specs.Bins.{Bin, look_up}
use Rattle.hive_model.specs.Lists.{AreHints}
use Rattle.hive_cells.specs.Held.{held_at}
use Rattle.key_index.specs.Lists.{children_at, hints_in, lists_at, with_child}
use Rattle.key_index.proofs.Runs.{lists_held, hints_four, relists_as}
use Rattle.key_index.proofs.change.insert_child.Goals as goal

pub relist-requires-clause-held : goal.relist-requires-clause-held
relist-requires-clause-held c =
    let bins = c.args.cells.now.bins in
    let gone = c.deref.ensures.value ∙ c.in_ok-plan.ensures.gone
    ∙ ap (λ (b : List Bin). lists_at (look_up c.args.version b) c.args.list c.args.count) c.cells.ensures in
    subst (All (λ o. IsSome (held_at bins o))) (sym gone)
    (lists_held c.args.version bins c.args.list c.args.count c.requires.siblings)

pub relist-requires-clause-four : goal.relist-requires-clause-four
relist-requires-clause-four c =
    subst AreHints (sym (c.deref-3.ensures.value ∙ c.in_ok-plan.ensures.hints)) (hints_four _ _)

pub returns-clause-exact : goal.returns-clause-exact
returns-clause-exact c =
    let cells = λ (b : List Bin). look_up c.args.version b in
    let offsets = λ (b : List Bin).
    with_child (cells b) c.args.child (children_at (cells b) c.args.list c.args.count) in
    let children = c.in_ok-plan.ensures.children ∙ ap offsets c.cells.ensures in
    relists_as c.args.version _ _ _ _ _ _ c.args.cells.now.bins c.relist.new.heap.bins c.relist.result
    (c.deref.ensures.value ∙ c.in_ok-plan.ensures.gone
    ∙ ap (λ (b : List Bin). lists_at (cells b) c.args.list c.args.count) c.cells.ensures)
    (c.deref-2.ensures.value ∙ children)
    (c.deref-3.ensures.value ∙ c.in_ok-plan.ensures.hints ∙ (λ i. hints_in (cells (c.cells.ensures i)) (children i)))
    c.relist.ensures.exact
