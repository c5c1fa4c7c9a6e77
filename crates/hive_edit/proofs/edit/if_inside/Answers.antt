use Rattle.std.proofs.Common.{arith}
use Rattle.hive_cells.specs.Sources.{cells_of}
use Rattle.hive_look.proofs.ItemLemmas.{item_long}
use Rattle.hive_edit.proofs.SetLemmas.{in_place_inside, none_inside, not_inside}
use Rattle.hive_edit.proofs.edit.if_inside.Goals as goal

pub u32_at-size-requires : goal.u32_at-size-requires
u32_at-size-requires c =
    let p = c.payload-value.result.now in
    omega (arith, item_long (cells_of c.args.cells.now) c.args.at p c.requires c.payload-value.ensures)

pub returns-then-size-ge2147483648 : goal.returns-then-size-ge2147483648
returns-then-size-ge2147483648 c =
    in_place_inside (cells_of c.args.cells.now)
    c.args.at c.payload-value.result.now c.u32_at-size.result c.requires c.payload-value.ensures
    c.u32_at-size.ensures c.if-size-ge2147483648.true

pub returns-then-size-eq0 : goal.returns-then-size-eq0
returns-then-size-eq0 c =
    none_inside (cells_of c.args.cells.now)
    c.args.at c.payload-value.result.now c.u32_at-size.result c.requires c.payload-value.ensures
    c.u32_at-size.ensures c.if-size-eq0.true

pub returns : goal.returns
returns c =
    not_inside (cells_of c.args.cells.now)
    c.args.at c.payload-value.result.now c.u32_at-size.result c.requires c.payload-value.ensures
    c.u32_at-size.ensures c.if-size-ge2147483648.false c.if-size-eq0.false
