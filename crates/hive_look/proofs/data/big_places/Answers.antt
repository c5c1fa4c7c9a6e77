use Rattle.std.proofs.Common.{◌∷◌, List, ℕ, ap, ◌∙◌}
use Rattle.cell_forms.specs.Views.{big_data_of}
use Rattle.hive_cells.specs.Sources.{cells_of}
use Rattle.hive_look.proofs.DataLemmas.{db_here, list_here, used_here}
use Rattle.hive_look.proofs.data.big_places.Goals as goal
use Rattle.std.proofs.lemmas.Result.{IfOk-weaker}

pub db_in-requires : goal.db_in-requires
db_in-requires c = db_here (cells_of c.args.cells.now)
    c.args.size c.args.at c.payload.result.now c.requires c.payload.ensures

pub segments_in-requires : goal.segments_in-requires
segments_in-requires c =
    list_here (cells_of c.args.cells.now) c.args.size c.args.at c.payload.result.now c.payload-2.result.now
    (big_data_of c.in_ok-db.db) c.requires c.payload.ensures c.in_ok-db.ensures c.payload-2.ensures

pub returns : goal.returns
returns c =
    let same = used_here (cells_of c.args.cells.now)
    c.args.size c.args.at c.payload.result.now c.payload-2.result.now c.in_ok-segments.segments
    (big_data_of c.in_ok-db.db)
    c.requires c.payload.ensures c.in_ok-db.ensures c.payload-2.ensures c.in_ok-segments.ensures in
    IfOk-weaker c.two_and.result _ _
    (λ v e. e ∙ ap (λ (l : List ℕ). c.args.at ∷ c.in_ok-db.db.list ∷ l) c.as_slice.ensures ∙ same) c.two_and.ensures
