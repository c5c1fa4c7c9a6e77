use Rattle.std.proofs.Common.{◌∙◌, arith}
use Rattle.hive_cells.specs.Sources.{cells_of}
use Rattle.hive_look.proofs.ItemLemmas.{value_is_there, value_long}
use Rattle.hive_look.proofs.DataLemmas.{room_at}
use Rattle.hive_look.proofs.data.data_room.Goals as goal

pub u32_at-requires : goal.u32_at-requires
u32_at-requires c =
    let p = c.payload-value.result.now in
    omega (
      arith,
      value_long p
          (value_is_there (cells_of c.args.cells.now) c.args.at p c.requires c.payload-value.ensures),
    )

pub returns-clause-room : goal.returns-clause-room
returns-clause-room c =
    c.room_by.ensures.room ∙ room_at (cells_of c.args.cells.now)
    c.args.at c.payload-value.result.now c.u32_at.result c.requires c.payload-value.ensures c.u32_at.ensures
