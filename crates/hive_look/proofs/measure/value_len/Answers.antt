use Rattle.std.proofs.Common.{◌≡◌, arith}
use Rattle.hive_model.specs.Tree.{Item}
use Rattle.hive_model.specs.Stands.{item_at}
use Rattle.hive_cells.specs.Sources.{cells_of}
use Rattle.hive_look.proofs.ResultLemmas.{done}
use Rattle.hive_look.proofs.ItemLemmas.{item_long, value_is_there}
use Rattle.hive_look.proofs.MeasureLemmas.{HasMeasures, measures, item_inside, item_celled}
use Rattle.hive_look.proofs.measure.value_len.Goals as goal
use Rattle.hive_look.proofs.measure.value_len.Goals.{After-u32_at-size}

pub name_len-requires : goal.name_len-requires
name_len-requires c = value_is_there (cells_of c.args.cells.now)
    c.args.at c.payload-value.result.now c.requires c.payload-value.ensures

pub u32_at-size-requires : goal.u32_at-size-requires
u32_at-size-requires c =
    let p = c.payload-value.result.now in
    omega (arith, item_long (cells_of c.args.cells.now) c.args.at p c.requires c.payload-value.ensures)

measured : (c : After-u32_at-size) (v : Item) → item_at (cells_of c.args.cells.now) c.args.at ≡ done v
    → HasMeasures c.payload-value.result.now c.u32_at-size.result v
measured c v i =
    measures (cells_of c.args.cells.now) c.args.at c.payload-value.result.now c.u32_at-size.result v c.requires i
    c.payload-value.ensures c.u32_at-size.ensures

pub returns-then-size-ge2147483648-clause-exact : goal.returns-then-size-ge2147483648-clause-exact
returns-then-size-ge2147483648-clause-exact c = λ v i.
    item_inside c.args.cells.now.version c.payload-value.result.now c.u32_at-size.result c.cell_len-own.result
    c.name_len.result v
    (measured (goal.at.returns-then-size-ge2147483648-clause-exact c).After-u32_at-size v i)
    c.if-size-ge2147483648.true c.cell_len-own.ensures c.name_len.ensures.exact

pub returns-clause-exact : goal.returns-clause-exact
returns-clause-exact c = λ v i.
    item_celled c.args.cells.now.version c.payload-value.result.now c.u32_at-size.result c.cell_len-own.result
    c.name_len.result c.data_len.result v
    (measured (goal.at.returns-clause-exact c).After-u32_at-size v i)
    c.if-size-ge2147483648.false c.cell_len-own.ensures c.name_len.ensures.exact c.data_len.ensures.exact
