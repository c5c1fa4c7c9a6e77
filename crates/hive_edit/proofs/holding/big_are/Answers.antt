use Rattle.cell_forms.specs.Views.{big_data_of}
use Rattle.hive_cells.specs.Sources.{cells_of}
use Rattle.hive_look.proofs.DataLemmas.{db_here, list_here}
use Rattle.hive_edit.proofs.HoldingLemmas.{big_joined, big_is_joined}
use Rattle.hive_edit.proofs.holding.big_are.Goals as goal

pub db_in-requires : goal.db_in-requires
db_in-requires c = db_here (cells_of c.args.cells.now)
    c.args.size c.args.place c.payload.result.now c.requires c.payload.ensures

pub segments_in-requires : goal.segments_in-requires
segments_in-requires c =
    list_here (cells_of c.args.cells.now) c.args.size c.args.place c.payload.result.now c.payload-2.result.now
    (big_data_of c.in_ok-db.db) c.requires c.payload.ensures c.in_ok-db.ensures c.payload-2.ensures

pub segments_are-requires : goal.segments_are-requires
segments_are-requires c =
    rw c.as_slice.ensures
    (big_is_joined (cells_of c.args.cells.now) c.args.size c.args.place c.payload.result.now c.payload-2.result.now
    c.in_ok-segments.segments (big_data_of c.in_ok-db.db) c.requires c.payload.ensures c.in_ok-db.ensures
    c.payload-2.ensures c.in_ok-segments.ensures)

pub returns : goal.returns
returns c = λ b e.
    c.segments_are.ensures b
    (rw c.as_slice.ensures
    (big_joined (cells_of c.args.cells.now) c.args.size c.args.place c.payload.result.now c.payload-2.result.now
    c.in_ok-segments.segments (big_data_of c.in_ok-db.db) c.payload.ensures c.in_ok-db.ensures
    c.payload-2.ensures c.in_ok-segments.ensures b e))
