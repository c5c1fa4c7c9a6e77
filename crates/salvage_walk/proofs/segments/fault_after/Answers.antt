use Rattle.std.proofs.Common.{◌++◌, sym, ◌∙◌, arith}
use Rattle.salvage_bins.specs.Ground.{ground_of}
use Rattle.salvage_walk.proofs.FaultLemmas.{fails-absent, fails-short, fails-shared, fails-used}
use Rattle.salvage_walk.proofs.segments.fault_after.Goals as goal

pub returns-then-is_used_any : goal.returns-then-is_used_any
returns-then-is_used_any c =
    rw c.shared.ensures (fails-used c.args.count (ground_of c.args.cells.now) (c.args.used.now ++ c.args.list.now) c.args.at
    c.in-Ok.payload.now c.in-Ok.ensures (sym c.is_used_any.ensures ∙ c.if-is_used_any.true))

pub returns-then-payload-count : goal.returns-then-payload-count
returns-then-payload-count c =
    fails-short c.args.count (ground_of c.args.cells.now) (c.args.used.now ++ c.args.list.now) c.args.at
    c.in-Ok.payload.now c.in-Ok.ensures (sym c.is_used_any.ensures ∙ c.if-is_used_any.false) (omega (arith, c.if-payload-count.true))

pub returns-then-overlaps_any : goal.returns-then-overlaps_any
returns-then-overlaps_any c =
    rw c.shared-then-overlaps_any.ensures (fails-shared c.args.count (ground_of c.args.cells.now) (c.args.used.now ++ c.args.list.now) c.args.at
    c.in-Ok.payload.now c.in-Ok.ensures (omega (arith, c.if-payload-count.false)) (sym c.overlaps_any.ensures ∙ c.if-overlaps_any.true))

pub returns-in-Err : goal.returns-in-Err
returns-in-Err c =
    fails-absent c.args.count (ground_of c.args.cells.now) (c.args.used.now ++ c.args.list.now) c.args.at c.in-Err.kind c.in-Err.ensures
