use Rattle.std.proofs.lemmas.Result.{err_from_is_err_and}
use Rattle.cell_forms.specs.Views.{node_seen}
use Rattle.hive_cells.specs.Sources.{cells_of}
use Rattle.key_command.proofs.ReadingLemmas.{stops_on, cut_off, cut_below}
use Rattle.key_command.proofs.hive_levels.cut.+cut.Goals as goal

pub read_cut-returns-in_err-node : goal.read_cut-returns-in_err-node
read_cut-returns-in_err-node t c =
    let p = err_from_is_err_and c.from_residual.result c.from_residual.ensures.1 in
    rw (p.1, p.2) (stops_on c.in_err-node.field-0.0 _ _
    (λ k. cut_off c.args.left (cells_of c.args.cells.now) c.args.at k) c.in_err-node.ensures)

pub read_cut-returns : goal.read_cut-returns
read_cut-returns t c =
    rw (cut_below c.args.left (cells_of c.args.cells.now) c.args.at (node_seen c.in_ok-node.node)
    c.if-left-eq0.false c.in_ok-node.ensures) c.read_below.ensures
