use Rattle.std.proofs.Common.{arith}
use Rattle.cell_tables.proofs.CoveredLemmas.{AreMerged, before_merged, covered_merged}
use Rattle.cell_tables.proofs.saved_pages.pages.SavedPages.merge.Goals as goal
use Rattle.cell_tables.proofs.saved_pages.pages.SavedPages.merge.Goals.{After-loop-k}

merged : (c : After-loop-k) → AreMerged c.args.self.now c.args.later.now c.loop-k.self
merged c = λ k lt. c.loop-k.invariant.done k (omega (arith, lt, c.len-count.ensures.count, c.loop-k-test.false))

pub returns-clause-before : goal.returns-clause-before
returns-clause-before c = λ bytes there first.
    before_merged c.args.self.now c.args.later.now c.loop-k.self bytes c.loop-k.invariant.count
    (merged (goal.at.returns-clause-before c).After-loop-k) c.len-whole.ensures.whole there first

pub returns-clause-covered : goal.returns-clause-covered
returns-clause-covered c = λ bytes there first.
    covered_merged c.args.self.now c.args.later.now c.loop-k.self bytes c.loop-k.invariant.count
    (merged (goal.at.returns-clause-covered c).After-loop-k) c.len-whole.ensures.whole there first
