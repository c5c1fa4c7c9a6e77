use Rattle.std.proofs.Common.{◌-◌, length, take, drop, get_or, refl, arith}
use Rattle.std.proofs.lemmas.List.{take_rest}
use Rattle.hive_cells.specs.Sources.{cells_of}
use Rattle.hive_read.proofs.Walks.{first-and-rest}
use Rattle.hive_edit.proofs.HoldingLemmas.{OneMore, one_more, too_few, segment_fits, not_wanted, one_wanted}
use Rattle.hive_edit.proofs.holding.segments_are.Goals as goal
use Rattle.hive_edit.proofs.holding.segments_are.Goals.{After-min-part}

one : (c : After-min-part) → let rest = c.segments.rest.now in
    OneMore (cells_of c.args.cells.now) c.args.size c.segments.left (get_or rest 0 0) c.min-part.result c.args.offsets.now
    rest (take (length rest - 1) (drop 1 rest)) c.args.bytes.now c.segments.want.now
one c =
    let rest = c.segments.rest.now in
    one_more (cells_of c.args.cells.now) c.args.size c.segments.left (get_or rest 0 0) c.min-part.result c.args.offsets.now
    rest (take (length rest - 1) (drop 1 rest)) c.args.bytes.now c.segments.want.now c.segments.invariant
    (first-and-rest rest c.in-len1-up.len_at_least) c.min-part.ensures

pub returns-then-want-part : goal.returns-then-want-part
returns-then-want-part c =
    too_few (one (goal.at.returns-then-want-part c).After-min-part) (omega (arith, c.if-want-part.true))

pub begins-requires : goal.begins-requires
begins-requires c =
    segment_fits (one (goal.at.begins-requires c).After-min-part) c.payload.result.now c.payload.ensures

pub returns-then-not-begins : goal.returns-then-not-begins
returns-then-not-begins c =
    not_wanted (one (goal.at.returns-then-not-begins c).After-min-part) c.payload.result.now _ c.begins.result
    c.payload.ensures refl c.begins.ensures c.if-not-begins.true

pub segments-preserved : goal.segments-preserved
segments-preserved c =
    let m = one_wanted (one (goal.at.segments-preserved c).After-min-part) c.payload.result.now _ c.begins.result
    c.payload.ensures refl c.begins.ensures c.if-not-begins.false in
    rw (c.saturating_sub-left.ensures) (rw (take_rest c.segments.want.now c.min-part.result) m)
