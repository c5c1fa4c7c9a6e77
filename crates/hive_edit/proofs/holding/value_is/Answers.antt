use Rattle.std.proofs.Common.{◌≤◌, ◌+◌, length, arith}
use Rattle.std.proofs.lemmas.Result.{IfOk-weaker}
use Rattle.nt_bytes.specs.Fields.{u16_in}
use Rattle.hive_cells.specs.Sources.{cells_of}
use Rattle.hive_look.proofs.ItemLemmas.{item_long}
use Rattle.hive_edit.proofs.HoldingLemmas.{other_kind, this_kind, has_data, size_fits}
use Rattle.hive_edit.proofs.holding.value_is.Goals as goal
use Rattle.hive_edit.proofs.holding.value_is.Goals.{After-payload-value}

long : (c : After-payload-value) → 20 + u16_in c.payload-value.result.now 2 ≤ length c.payload-value.result.now
long c = item_long (cells_of c.args.cells.now) c.args.at c.payload-value.result.now c.requires c.payload-value.ensures

pub u32_at-own-requires : goal.u32_at-own-requires
u32_at-own-requires c = omega (arith, long (goal.at.u32_at-own-requires c).After-payload-value)

pub u32_at-size-requires : goal.u32_at-size-requires
u32_at-size-requires c = omega (arith, long (goal.at.u32_at-size-requires c).After-payload-value)

pub u32_at-place-requires : goal.u32_at-place-requires
u32_at-place-requires c = omega (arith, long (goal.at.u32_at-place-requires c).After-payload-value)

pub returns-then-own-kind : goal.returns-then-own-kind
returns-then-own-kind c =
    other_kind (cells_of c.args.cells.now) c.args.at c.u32_at-own.result c.args.kind c.payload-value.result.now
    c.args.bytes.now c.requires c.payload-value.ensures c.u32_at-own.ensures c.if-own-kind.true

pub data_are-requires-clause-data : goal.data_are-requires-clause-data
data_are-requires-clause-data c =
    has_data (cells_of c.args.cells.now) c.args.at c.u32_at-size.result c.u32_at-place.result c.payload-value.result.now
    c.requires c.payload-value.ensures c.u32_at-size.ensures c.u32_at-place.ensures

pub data_are-requires-clause-fits : goal.data_are-requires-clause-fits
data_are-requires-clause-fits c =
    size_fits (cells_of c.args.cells.now) c.args.at c.u32_at-size.result c.payload-value.result.now c.requires
    c.payload-value.ensures c.u32_at-size.ensures

pub returns : goal.returns
returns c =
    IfOk-weaker c.data_are.result _ _
    (λ t test. this_kind (cells_of c.args.cells.now) c.args.at c.u32_at-own.result c.args.kind c.u32_at-size.result
    c.u32_at-place.result c.payload-value.result.now c.args.bytes.now t c.requires c.payload-value.ensures
    c.u32_at-own.ensures c.if-own-kind.false c.u32_at-size.ensures c.u32_at-place.ensures test) c.data_are.ensures
