use Rattle.std.proofs.Common.{◌≤◌, ◌+◌, length, sym, ◌∙◌, arith}
use Rattle.nt_bytes.specs.Fields.{u16_in}
use Rattle.hive_cells.specs.Sources.{cells_of}
use Rattle.hive_look.proofs.ItemLemmas.{item_long}
use Rattle.hive_look.proofs.DataLemmas.{places_by, big_at}
use Rattle.hive_look.proofs.data.data_places.Goals as goal
use Rattle.hive_look.proofs.data.data_places.Goals.{After-payload-value}
use Rattle.std.proofs.lemmas.Result.{IfOk-weaker}

long : (c : After-payload-value) → 20 + u16_in c.payload-value.result.now 2 ≤ length c.payload-value.result.now
long c = item_long (cells_of c.args.cells.now) c.args.at c.payload-value.result.now c.requires c.payload-value.ensures

pub u32_at-size-requires : goal.u32_at-size-requires
u32_at-size-requires c = omega (arith, long (goal.at.u32_at-size-requires c).After-payload-value)

pub u32_at-place-requires : goal.u32_at-place-requires
u32_at-place-requires c = omega (arith, long (goal.at.u32_at-place-requires c).After-payload-value)

pub places_of-requires : goal.places_of-requires
places_of-requires c =
    big_at (cells_of c.args.cells.now)
    c.args.at c.payload-value.result.now c.u32_at-size.result c.u32_at-place.result c.requires
    c.payload-value.ensures c.u32_at-size.ensures c.u32_at-place.ensures

pub returns : goal.returns
returns c =
    let same = places_by (cells_of c.args.cells.now)
    c.args.at c.payload-value.result.now c.u32_at-size.result c.u32_at-place.result
    c.requires c.payload-value.ensures c.u32_at-size.ensures c.u32_at-place.ensures in
    IfOk-weaker c.places_of.result _ _ (λ v e. e ∙ sym same) c.places_of.ensures
