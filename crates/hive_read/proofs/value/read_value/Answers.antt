use Rattle.std.proofs.Common.{◌≡◌, ◌||◌, ℕ, List, Ok, sym, ap, subst, ◌∙◌}
use Rattle.nt_bytes.specs.Folding.{folds_same}
use Rattle.hive_model.specs.KeyValue.{KeyValue}
use Rattle.hive_model.specs.Stands.{data_of}
use Rattle.hive_cells.specs.Sources.{cells_of}
use Rattle.hive_read.specs.Taken.{has_name, Knows}
use Rattle.hive_read.specs.Walked.{Stops, walk}
use Rattle.hive_model.specs.Walk.{data_checks, value_checks}
use Rattle.cell_forms.specs.Views.{value_seen}
use Rattle.hive_read.proofs.Walks.{stopped, stops-on}
use Rattle.hive_read.proofs.ValueWalks.{value-off, value-unnamed, value-data, item-stands, item_of}
use Rattle.hive_read.proofs.value.read_value.Goals as goal
use Rattle.hive_read.proofs.value.read_value.Goals.{In_ok-take_name}

-- its name is taken, and its data are next
data_next : (c : In_ok-take_name) (names : List (List ℕ)) → Knows c.args.taken.now names
    → walk (cells_of c.args.cells.now) c.args.used.now (value_checks (cells_of c.args.cells.now) names c.args.at)
    ≡ walk (cells_of c.args.cells.now) c.use_value.new.used
    (data_checks (cells_of c.args.cells.now) (value_seen c.in_ok-seen.seen))
data_next c names k =
    value-data (cells_of c.args.cells.now) c.args.used.now names c.args.at (value_seen c.in_ok-seen.seen)
    c.in_ok-seen.ensures.0 c.in_ok-seen.ensures.1
    (c.in_ok-take_name.ensures.walked names k (cells_of c.args.cells.now) c.use_value.new.used).0

pub returns-in_err-seen-clause-walked : goal.returns-in_err-seen-clause-walked
returns-in_err-seen-clause-walked c = λ names k.
    rw (stopped c.from_residual.result c.in_err-seen.field-0.0 c.from_residual.ensures.1)
    (stops-on c.in_err-seen.field-0.0 _ _
    (λ f. value-off (cells_of c.args.cells.now) c.args.used.now names c.args.at f) c.in_err-seen.ensures)

pub returns-in_err-take_name-clause-walked : goal.returns-in_err-take_name-clause-walked
returns-in_err-take_name-clause-walked c = λ names k.
    rw (stopped c.from_residual-in_err-take_name.result c.in_err-take_name.field-0.0
    c.from_residual-in_err-take_name.ensures.1)
    (stops-on c.in_err-take_name.field-0.0 _ _ (λ f. value-unnamed (cells_of c.args.cells.now) c.args.used.now names
    c.args.at (value_seen c.in_ok-seen.seen) f c.in_ok-seen.ensures.0 c.in_ok-seen.ensures.1)
    (c.in_err-take_name.ensures.walked names k (cells_of c.args.cells.now) c.use_value.new.used))

pub returns-in_err-bytes-clause-walked : goal.returns-in_err-bytes-clause-walked
returns-in_err-bytes-clause-walked c = λ names k.
    rw (stopped c.from_residual-in_err-bytes.result c.in_err-bytes.field-0.0 c.from_residual-in_err-bytes.ensures.1)
    (stops-on c.in_err-bytes.field-0.0 _ _
    (λ f e. data_next (goal.at.returns-in_err-bytes-clause-walked c).In_ok-take_name names k ∙ e)
    (subst (λ (k : KeyValue). Stops (walk (cells_of c.args.cells.now) c.use_value.new.used
    (data_checks (cells_of c.args.cells.now) k)) c.in_err-bytes.field-0.0) c.in_ok-form.ensures c.in_err-bytes.ensures))

pub returns-clause-walked : goal.returns-clause-walked
returns-clause-walked c = λ names k.
    let cells = cells_of c.args.cells.now in
    let v = value_seen c.in_ok-seen.seen in
    let w = subst (λ (k : KeyValue). walk cells c.use_value.new.used (data_checks cells k) ≡ Ok c.read_data.new.used)
    c.in_ok-form.ensures c.in_ok-bytes.ensures.0 in
    let b = subst (λ (k : KeyValue). data_of cells k ≡ Ok c.in_ok-bytes.bytes)
    c.in_ok-form.ensures c.in_ok-bytes.ensures.1 in (
      data_next (goal.at.returns-clause-walked c).In_ok-take_name names k ∙ w,
      item-stands cells c.args.at v c.in_ok-bytes.bytes c.in_ok-seen.ensures.1 b
          ∙ ap (λ (k : KeyValue). Ok (item_of k c.in_ok-bytes.bytes)) (sym c.in_ok-form.ensures),
    )

pub returns-clause-known : goal.returns-clause-known
returns-clause-known c = λ n.
    c.in_ok-take_name.ensures.known n
    ∙ ap (λ (k : KeyValue). has_name c.args.taken.now n || folds_same n k.name) (sym c.in_ok-form.ensures)
