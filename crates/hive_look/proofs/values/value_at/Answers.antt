use Rattle.std.proofs.Common.{◌≤◌, length, sym, ap, ◌∙◌, arith}
use Rattle.std.specs.Prelude.{find}
use Rattle.hive_model.specs.Footprint.{is_value_named}
use Rattle.hive_cells.specs.Sources.{cells_of}
use Rattle.hive_look.proofs.NodeLemmas.{ValuesHere, node_long, values_here, no_values_here}
use Rattle.hive_look.proofs.values.value_at.Goals as goal
use Rattle.hive_look.proofs.values.value_at.Goals.{After-payload-node, After-payload-list}

long : (c : After-payload-node) → 76 ≤ length c.payload-node.result.now
long c = node_long (cells_of c.args.cells.now) c.args.at c.payload-node.result.now c.requires c.payload-node.ensures

here : (c : After-payload-list)
    → ValuesHere (cells_of c.args.cells.now) c.args.at c.u32_at-count.result c.payload-list.result.now
here c =
    values_here (cells_of c.args.cells.now)
    c.args.at c.payload-node.result.now c.payload-list.result.now c.u32_at-count.result c.u32_at-place.result
    c.requires c.payload-node.ensures c.u32_at-count.ensures c.if-count-eq0.false c.u32_at-place.ensures
    c.payload-list.ensures

pub u32_at-count-requires : goal.u32_at-count-requires
u32_at-count-requires c = omega (arith, long (goal.at.u32_at-count-requires c).After-payload-node)

pub u32_at-place-requires : goal.u32_at-place-requires
u32_at-place-requires c = omega (arith, long (goal.at.u32_at-place-requires c).After-payload-node)

pub returns-then-count-eq0 : goal.returns-then-count-eq0
returns-then-count-eq0 c =
    let cells = cells_of c.args.cells.now in
    let empty = no_values_here cells c.args.at c.payload-node.result.now c.u32_at-count.result c.requires
    c.payload-node.ensures c.u32_at-count.ensures c.if-count-eq0.true in
    record { place = ap (find (is_value_named cells c.args.name.now)) (sym empty); stands = tt }

pub find_value-requires : goal.find_value-requires
find_value-requires c =
    let h = here (goal.at.find_value-requires c).After-payload-list in
    record { long = h.long; values = h.values }

pub returns : goal.returns
returns c = record {
  place = c.find_value.ensures.place ∙ ap (find (is_value_named (cells_of c.args.cells.now) c.args.name.now))
      (sym (here (goal.at.returns c).After-payload-list).places);
  stands = c.find_value.ensures.stands;
}
