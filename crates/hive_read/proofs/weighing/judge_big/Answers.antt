use Rattle.std.proofs.Common.{ℕ, ◌∙◌}
use Rattle.hive_model.specs.Stands.{joined_segments, big_bytes_at}
use Rattle.cell_forms.specs.Views.{big_data_of}
use Rattle.hive_read.specs.Judged.{HasLength}
use Rattle.hive_cells.specs.Sources.{cells_of}
use Rattle.hive_read.proofs.Walks.{stopped, stops-on, steps-same}
use Rattle.hive_read.proofs.BigWalks.{big-off, big-unlisted, big-on}
use Rattle.hive_read.proofs.weighing.judge_big.Goals as goal

pub returns-in_err-big : goal.returns-in_err-big
returns-in_err-big c =
    rw (stopped c.from_residual.result c.in_err-big.field-0.0 c.from_residual.ensures.1)
    (stops-on c.in_err-big.field-0.0 _ _
    (λ f. big-off (cells_of c.args.cells.now) c.args.used.now c.args.size c.args.at f) c.in_err-big.ensures)

pub returns-in_err-offsets : goal.returns-in_err-offsets
returns-in_err-offsets c =
    rw (stopped c.from_residual-in_err-offsets.result c.in_err-offsets.field-0.0
    c.from_residual-in_err-offsets.ensures.1)
    (stops-on c.in_err-offsets.field-0.0 _ _ (λ f. big-unlisted (cells_of c.args.cells.now) c.args.used.now
    c.use_big_data.new.used c.args.size c.args.at (big_data_of c.in_ok-big.big) f c.in_ok-big.ensures.0
    c.in_ok-big.ensures.1) (rw c.from.ensures at c.in_err-offsets.ensures))

pub returns : goal.returns
returns c =
    let cells = cells_of c.args.cells.now in
    let u = c.in_ok-big.ensures in
    let o = rw c.from.ensures at c.in_ok-offsets.ensures in
    let on = big-on cells c.args.used.now c.use_big_data.new.used c.use_offsets.new.used c.args.size c.args.at
    (big_data_of c.in_ok-big.big) c.in_ok-offsets.offsets u.0 u.1 o.0 o.1 in
    steps-same (HasLength (joined_segments cells c.args.size c.in_ok-offsets.offsets))
    (HasLength (big_bytes_at cells c.args.size c.args.at)) _ _
    c.judge_segments.new.used c.judge_segments.result on.0 (λ (n : ℕ) h. (h.0, on.1 ∙ h.1, h.2))
    (rw c.as_slice.ensures at c.judge_segments.ensures)
