use Rattle.std.proofs.Common.{Bool, ap, List, ℕ, [], ◌∷◌, ◌++◌, ◌∙◌, false}
use Rattle.hive_model.specs.Lists.{numbers_in}
use Rattle.hive_cells.specs.Sources.{cells_of}
use Rattle.edited_cells.specs.Revalues.{all_value_cells, cells_of_values}
use Rattle.edited_cells.specs.Uses.{plain}
use Rattle.hive_look.proofs.NodeLemmas.{ValuesHere, values_here}
use Rattle.hive_look.proofs.UsesLemmas.{use_of, nothing_more, joined_uses, no_values, some_values}
use Rattle.hive_look.proofs.uses.push_values.Goals as goal
use Rattle.hive_look.proofs.uses.push_values.Goals.{After-payload-list}

pub returns-then-count-eq0 : goal.returns-then-count-eq0
returns-then-count-eq0 c =
    let cells = cells_of c.args.cells.now in
    nothing_more c.args.uses.now.items (plain (all_value_cells cells c.args.at))
    (no_values cells c.args.at c.node_at-node.result.now c.u32_at-count.result c.requires c.node_at-node.ensures.value
    c.u32_at-count.ensures c.if-count-eq0.true)

values : (c : After-payload-list)
    → ValuesHere (cells_of c.args.cells.now) c.args.at c.u32_at-count.result c.payload-list.result.now
values c =
    values_here (cells_of c.args.cells.now) c.args.at c.node_at-node.result.now c.payload-list.result.now
    c.u32_at-count.result c.u32_at-place.result c.requires c.node_at-node.ensures.value c.u32_at-count.ensures
    c.if-count-eq0.false c.u32_at-place.ensures c.payload-list.ensures

pub push_listed-requires-clause-long : goal.push_listed-requires-clause-long
push_listed-requires-clause-long c = (values (goal.at.push_listed-requires-clause-long c).After-payload-list).long

pub push_listed-requires-clause-values : goal.push_listed-requires-clause-values
push_listed-requires-clause-values c = (values (goal.at.push_listed-requires-clause-values c).After-payload-list).values

pub returns : goal.returns
returns c =
    let cells = cells_of c.args.cells.now in
    joined_uses c.args.uses.now.items c.push.new.self.items c.push_listed.new.uses.items
    (use_of c.u32_at-place.result false ∷ [])
    (plain (cells_of_values cells (numbers_in 4 c.u32_at-count.result c.payload-list.result.now)))
    c.in_ok-push.ensures.items c.in_ok-push_listed.ensures
    ∙ ap (λ (l : List (ℕ × Bool)). c.args.uses.now.items ++ l)
    (some_values cells c.args.at c.node_at-node.result.now c.payload-list.result.now c.u32_at-count.result
    c.u32_at-place.result c.requires c.node_at-node.ensures.value
    c.u32_at-count.ensures c.if-count-eq0.false c.u32_at-place.ensures c.payload-list.ensures)
