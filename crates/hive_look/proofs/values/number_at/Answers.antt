use Rattle.std.proofs.Common.{◌≤◌, ◌+◌, length, sym, arith}
use Rattle.nt_bytes.specs.Fields.{u16_in}
use Rattle.hive_cells.specs.Sources.{cells_of}
use Rattle.hive_look.proofs.ItemLemmas.{item_long, no_number_kind, number_inside, number_long, number_outside, no_number_size}
use Rattle.hive_look.proofs.values.number_at.Goals as goal
use Rattle.hive_look.proofs.values.number_at.Goals.{After-payload-value}

-- the payload is long enough
long : (c : After-payload-value) → 20 + u16_in c.payload-value.result.now 2 ≤ length c.payload-value.result.now
long c = item_long (cells_of c.args.cells.now) c.args.at c.payload-value.result.now c.requires c.payload-value.ensures

pub u32_at-kind-requires : goal.u32_at-kind-requires
u32_at-kind-requires c = omega (arith, long (goal.at.u32_at-kind-requires c).After-payload-value)

pub u32_at-size-requires : goal.u32_at-size-requires
u32_at-size-requires c = omega (arith, long (goal.at.u32_at-size-requires c).After-payload-value)

pub u32_at-place-requires : goal.u32_at-place-requires
u32_at-place-requires c = omega (arith, long (goal.at.u32_at-place-requires c).After-payload-value)

pub returns-then-kind-ne4 : goal.returns-then-kind-ne4
returns-then-kind-ne4 c =
    sym (no_number_kind (cells_of c.args.cells.now)
    c.args.at c.payload-value.result.now c.u32_at-kind.result c.requires c.payload-value.ensures
    c.u32_at-kind.ensures c.if-kind-ne4.true)

pub returns-then-size : goal.returns-then-size
returns-then-size c =
    sym (number_inside (cells_of c.args.cells.now)
    c.args.at c.u32_at-kind.result c.u32_at-size.result c.u32_at-place.result c.payload-value.result.now
    c.requires c.payload-value.ensures c.u32_at-kind.ensures c.if-kind-ne4.false c.u32_at-size.ensures c.if-size.true
    c.u32_at-place.ensures (omega arith))

pub returns-then-size-ne4 : goal.returns-then-size-ne4
returns-then-size-ne4 c =
    sym (no_number_size (cells_of c.args.cells.now)
    c.args.at c.u32_at-kind.result c.u32_at-size.result c.payload-value.result.now
    c.requires c.payload-value.ensures c.u32_at-kind.ensures c.if-kind-ne4.false c.u32_at-size.ensures c.if-size.false
    c.if-size-ne4.true)

pub u32_at-requires : goal.u32_at-requires
u32_at-requires c =
    let long = number_long (cells_of c.args.cells.now)
    c.args.at c.u32_at-kind.result c.u32_at-size.result c.u32_at-place.result c.payload-value.result.now
    c.payload-data.result.now
    c.requires c.payload-value.ensures c.u32_at-kind.ensures c.if-kind-ne4.false c.u32_at-size.ensures
    c.if-size-ne4.false c.u32_at-place.ensures c.payload-data.ensures in
    omega (arith, long)

pub returns : goal.returns
returns c =
    sym (number_outside (cells_of c.args.cells.now)
    c.args.at c.u32_at-kind.result c.u32_at-size.result c.u32_at-place.result c.u32_at.result
    c.payload-value.result.now c.payload-data.result.now
    c.requires c.payload-value.ensures c.u32_at-kind.ensures c.if-kind-ne4.false c.u32_at-size.ensures
    c.if-size-ne4.false c.u32_at-place.ensures c.payload-data.ensures c.u32_at.ensures)
