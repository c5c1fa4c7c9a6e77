use Rattle.std.proofs.Common.{◌-◌, length, take, drop, get_or}
use Rattle.hive_cells.specs.Sources.{cells_of}
use Rattle.hive_read.proofs.Walks.{none-left, first-and-rest}
use Rattle.hive_read.proofs.WeighingLemmas.{segments-next, segments-last}
use Rattle.hive_read.proofs.weighing.judge_segments.Goals as goal

pub returns-in_default : goal.returns-in_default
returns-in_default c =
    segments-last (cells_of c.args.cells.now)
    c.args.size c.args.offsets.now c.segments.left c.segments.rest.now c.segments.used c.args.used.now
    c.segments.invariant
    (none-left c.segments.rest.now c.in_default.len_below)

pub segments-preserved : goal.segments-preserved
segments-preserved c =
    let rest = c.segments.rest.now in
    let s = rw c.min.ensures at c.in_ok-_part.ensures in
    rw c.saturating_sub-left.ensures
    (segments-next (cells_of c.args.cells.now)
    c.args.size c.args.offsets.now c.segments.left rest c.segments.used c.args.used.now c.use_front.new.used
    (get_or rest 0 0)
    (take (length rest - 1) (drop 1 rest)) c.in_ok-_part._part.now c.segments.invariant
    (first-and-rest rest c.in-len1-up.len_at_least) s.0 s.1)
