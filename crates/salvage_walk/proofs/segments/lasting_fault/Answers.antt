use Rattle.std.proofs.Common.{◌++◌, sym, ◌∙◌, ◌+◌, arith}
use Rattle.salvage_bins.specs.Ground.{ground_of}
use Rattle.salvage_walk.proofs.FaultLemmas.{fails-absent, fails-shared, fails-used, lies-before, used-before}
use Rattle.salvage_walk.proofs.segments.lasting_fault.Goals as goal

pub returns-then-is_used : goal.returns-then-is_used
returns-then-is_used c = rw c.shared.ensures (λ more.
    fails-used c.args.count (ground_of c.args.cells.now) (c.args.used.now ++ more) c.args.at c.in-Ok.payload.now c.in-Ok.ensures
    (used-before c.args.at c.args.used.now more (sym c.is_used.ensures ∙ c.if-is_used.true)))

pub returns-then-overlaps : goal.returns-then-overlaps
returns-then-overlaps c = rw c.shared-then-overlaps.ensures (λ more.
    fails-shared c.args.count (ground_of c.args.cells.now) (c.args.used.now ++ more) c.args.at c.in-Ok.payload.now c.in-Ok.ensures
    (omega (arith, c.if-payload-count.false))
    (lies-before ((ground_of c.args.cells.now).loose c.args.at) c.args.at (c.args.at + (4 + c.args.count)) c.args.used.now more
    (sym c.overlaps.ensures ∙ c.if-overlaps.true)))

pub returns-in-Err : goal.returns-in-Err
returns-in-Err c = λ more.
    fails-absent c.args.count (ground_of c.args.cells.now) (c.args.used.now ++ more) c.args.at c.in-Err.kind c.in-Err.ensures
