use Rattle.std.proofs.Common.{◌∙◌}
use Rattle.hive_cells.specs.Sources.{cells_of}
use Rattle.cell_forms.specs.Views.{node_seen}
use Rattle.hive_read.proofs.Walks.{stopped, stops-on}
use Rattle.hive_read.proofs.ValueWalks.{values-unread, values-read}
use Rattle.hive_read.proofs.WeighingLemmas.{values-counts, no-values}
use Rattle.hive_read.proofs.weighing.judge_values.Goals as goal

pub returns-then-node-eq0 : goal.returns-then-node-eq0
returns-then-node-eq0 c =
    no-values (cells_of c.args.cells.now) c.args.used.now (node_seen c.args.node.now) c.if-node-eq0.true

pub returns-in_err-offsets : goal.returns-in_err-offsets
returns-in_err-offsets c =
    rw (stopped c.from_residual.result c.in_err-offsets.field-0.0 c.from_residual.ensures.1)
    (stops-on c.in_err-offsets.field-0.0 _ _
    (λ f. values-unread (cells_of c.args.cells.now) c.args.used.now (node_seen c.args.node.now)
    f c.if-node-eq0.false) c.in_err-offsets.ensures)

pub returns-in_err-values : goal.returns-in_err-values
returns-in_err-values c =
    let on = values-read (cells_of c.args.cells.now) c.args.used.now c.use_offsets.new.used (node_seen c.args.node.now)
    c.in_ok-offsets.offsets c.if-node-eq0.false c.in_ok-offsets.ensures.0 c.in_ok-offsets.ensures.1 in
    rw (stopped c.from_residual-in_err-values.result c.in_err-values.field-0.0 c.from_residual-in_err-values.ensures.1)
    (stops-on c.in_err-values.field-0.0 _ _ (λ f e. on.0 ∙ e)
    (rw c.as_slice-found.ensures at c.in_err-values.ensures))

pub returns : goal.returns
returns c =
    let on = values-read (cells_of c.args.cells.now) c.args.used.now c.use_offsets.new.used (node_seen c.args.node.now)
    c.in_ok-offsets.offsets c.if-node-eq0.false c.in_ok-offsets.ensures.0 c.in_ok-offsets.ensures.1 in
    let s = rw c.as_slice-found.ensures at c.in_ok-values.ensures in (
      on.0 ∙ s.0,
      values-counts (cells_of c.args.cells.now) (node_seen c.args.node.now)
          c.in_ok-offsets.offsets c.value_list_len-list.result c.in_ok-values.values c.saturating_add.result on.1
          (rw c.as_slice-found.ensures at c.value_list_len-list.ensures) s.1 c.saturating_add.ensures,
    )
