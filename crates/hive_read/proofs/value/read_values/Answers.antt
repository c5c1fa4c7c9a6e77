use Rattle.hive_cells.specs.Sources.{cells_of}
use Rattle.cell_forms.specs.Views.{node_seen}
use Rattle.hive_read.proofs.Walks.{stopped, stops-on}
use Rattle.hive_read.proofs.ValueWalks.{values-none, values-unread}
use Rattle.hive_read.proofs.value.read_values.Goals as goal

pub returns-then-node-eq0 : goal.returns-then-node-eq0
returns-then-node-eq0 c =
    rw c.new.ensures (values-none (cells_of c.args.cells.now) c.args.used.now (node_seen c.args.node.now)
    c.if-node-eq0.true)

pub returns-in_err-offsets : goal.returns-in_err-offsets
returns-in_err-offsets c =
    rw (stopped c.from_residual.result c.in_err-offsets.field-0.0 c.from_residual.ensures.1)
    (stops-on c.in_err-offsets.field-0.0 _ _
    (λ f. values-unread (cells_of c.args.cells.now) c.args.used.now (node_seen c.args.node.now)
    f c.if-node-eq0.false) c.in_err-offsets.ensures)
