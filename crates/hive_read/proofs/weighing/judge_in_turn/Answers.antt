use Rattle.std.proofs.Common.{◌-◌, map, length, take, drop, get_or, sym, ◌∙◌}
use Rattle.hive_cells.specs.Sources.{cells_of}
use Rattle.hive_read.proofs.Walks.{stopped, stops-on, none-left, first-and-rest}
use Rattle.hive_read.proofs.ValueWalks.{values-off}
use Rattle.hive_read.proofs.WeighingLemmas.{item_name, values-first, values-next, values-last}
use Rattle.hive_read.proofs.weighing.judge_in_turn.Goals as goal

pub values-init : goal.values-init
values-init c = values-first (cells_of c.args.cells.now)
    c.args.offsets.now c.new-taken.result c.args.used.now c.new-taken.ensures

pub returns-in_default : goal.returns-in_default
returns-in_default c =
    values-last (cells_of c.args.cells.now)
    c.args.offsets.now c.values.rest.now c.values.taken c.values.total c.values.used c.args.used.now
    c.values.invariant
    (none-left c.values.rest.now c.in_default.len_below)

pub returns-in_err-value : goal.returns-in_err-value
returns-in_err-value c =
    rw (stopped c.from_residual.result c.in_err-value.field-0.0 c.from_residual.ensures.1)
    (stops-on c.in_err-value.field-0.0 _ _ (λ f e. sym c.values.invariant.told
    ∙ values-off (cells_of c.args.cells.now) c.values.used (map item_name c.values.invariant.items)
    c.values.rest.now f c.in-len1-up.len_at_least e)
    (c.in_err-value.ensures (map item_name c.values.invariant.items) c.values.invariant.knows))

pub values-preserved : goal.values-preserved
values-preserved c =
    let cells = cells_of c.args.cells.now in
    let i = c.values.invariant in
    let rest = c.values.rest.now in
    let s = c.in_ok-value.ensures (map item_name i.items) i.knows in
    rw c.saturating_add-total.ensures
    (values-next cells c.args.offsets.now rest c.values.taken c.judge_value.new.taken c.values.total c.in_ok-value.value
    c.values.used c.args.used.now c.judge_value.new.used (get_or rest 0 0)
    (take (length rest - 1) (drop 1 rest)) i (first-and-rest rest c.in-len1-up.len_at_least) s.0 s.1)
