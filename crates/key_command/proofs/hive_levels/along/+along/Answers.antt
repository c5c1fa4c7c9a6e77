use Rattle.std.proofs.lemmas.Result.{err_from_is_err_and}
use Rattle.cell_forms.specs.Views.{node_seen}
use Rattle.hive_cells.specs.Sources.{cells_of}
use Rattle.reg_tree.proofs.Outcomes.{uncons}
use Rattle.key_command.proofs.ReadingLemmas.{stops_on, along_off}
use Rattle.key_command.proofs.hive_levels.along.+along.Goals as goal

pub read_path-returns-in_err-below : goal.read_path-returns-in_err-below
read_path-returns-in_err-below t c =
    let p = err_from_is_err_and c.from_residual-in_err-below.result c.from_residual-in_err-below.ensures.1 in
    let first = c.name-item.result in
    let whole = uncons c.args.path.now first c.in-len1-up.len_at_least c.name-item.is in
    let place = rw (c.as_slice.ensures, c.as_slice-2.ensures) at c.in_ok-place.ensures in
    rw (p.1, p.2) (stops_on c.in_err-below.field-0.0 _ _
    (λ k e. along_off c.args.path.now first _ c.args.levels (cells_of c.args.cells.now) c.args.at
    (node_seen c.in_ok-node.node) c.in_ok-offsets.offsets c.in_ok-place.place k whole c.in_ok-node.ensures
    c.in_ok-offsets.ensures place e) c.in_err-below.ensures)
