use Rattle.std.proofs.Common.{◌≡◌, ℕ, List, ◌∙◌}
use Rattle.hive_cells.specs.Sources.{cells_of}
use Rattle.hive_model.specs.Walk.{data_checks, value_checks}
use Rattle.cell_forms.specs.Views.{value_seen}
use Rattle.hive_read.specs.Taken.{Knows}
use Rattle.hive_read.specs.Walked.{walk}
use Rattle.hive_read.proofs.Walks.{stopped, stops-on}
use Rattle.hive_read.proofs.ValueWalks.{value-off, value-unnamed, value-data}
use Rattle.hive_read.proofs.WeighingLemmas.{value-counts}
use Rattle.hive_read.proofs.weighing.judge_value.Goals as goal
use Rattle.hive_read.proofs.weighing.judge_value.Goals.{In_ok-take_name}

-- its name is taken, and its data are next
data_next : (c : In_ok-take_name) (names : List (List ℕ)) → Knows c.args.taken.now names
    → walk (cells_of c.args.cells.now) c.args.used.now (value_checks (cells_of c.args.cells.now) names c.args.at)
    ≡ walk (cells_of c.args.cells.now) c.use_value.new.used
    (data_checks (cells_of c.args.cells.now) (value_seen c.in_ok-seen.seen))
data_next c names k =
    value-data (cells_of c.args.cells.now) c.args.used.now names c.args.at (value_seen c.in_ok-seen.seen)
    c.in_ok-seen.ensures.0 c.in_ok-seen.ensures.1
    (c.in_ok-take_name.ensures.walked names k (cells_of c.args.cells.now) c.use_value.new.used).0

pub returns-in_err-seen : goal.returns-in_err-seen
returns-in_err-seen c = λ names k.
    rw (stopped c.from_residual.result c.in_err-seen.field-0.0 c.from_residual.ensures.1)
    (stops-on c.in_err-seen.field-0.0 _ _
    (λ f. value-off (cells_of c.args.cells.now) c.args.used.now names c.args.at f) c.in_err-seen.ensures)

pub returns-in_err-take_name : goal.returns-in_err-take_name
returns-in_err-take_name c = λ names k.
    rw (stopped c.from_residual-in_err-take_name.result c.in_err-take_name.field-0.0
    c.from_residual-in_err-take_name.ensures.1)
    (stops-on c.in_err-take_name.field-0.0 _ _ (λ f. value-unnamed (cells_of c.args.cells.now) c.args.used.now names
    c.args.at (value_seen c.in_ok-seen.seen) f c.in_ok-seen.ensures.0 c.in_ok-seen.ensures.1)
    (c.in_err-take_name.ensures.walked names k (cells_of c.args.cells.now) c.use_value.new.used))

pub returns-in_err-data : goal.returns-in_err-data
returns-in_err-data c = λ names k.
    rw (stopped c.from_residual-in_err-data.result c.in_err-data.field-0.0 c.from_residual-in_err-data.ensures.1)
    (stops-on c.in_err-data.field-0.0 _ _
    (λ f e. data_next (goal.at.returns-in_err-data c).In_ok-take_name names k ∙ e)
    c.in_err-data.ensures)

pub returns : goal.returns
returns c = λ names k.
    let cells = cells_of c.args.cells.now in
    let v = value_seen c.in_ok-seen.seen in
    let d = c.in_ok-data.ensures in (
      data_next (goal.at.returns c).In_ok-take_name names k ∙ d.0,
      value-counts cells c.args.at v c.args.taken.now c.take_name.new.taken c.stored_size-own.result c.in_ok-data.data
          c.saturating_add.result c.in_ok-seen.ensures.1
          (λ n. c.in_ok-take_name.ensures.known n) c.stored_size-own.ensures d.1 c.saturating_add.ensures,
    )
