use Rattle.std.proofs.Common.{length, arith}
use Rattle.hive_cells.specs.Held.{run_cells}
use Rattle.hive_cells.specs.Holes.{HasGrown, IsFull}
use Rattle.hive_edit.proofs.RunLemmas.{put_in_new}
use Rattle.hive_edit.proofs.cells.put_behind.Goals as goal

pub unreachable-requires : goal.unreachable-requires
unreachable-requires c =
    let full : IsFull (length c.args.run.now) c.args.heap.now.bins c.grow.new.self.bins =
    rw c.in-None.is at c.in_ok-grow.ensures.exact in
    omega (arith, full.0, c.requires.place.fits)

pub returns-clause-put : goal.returns-clause-put
returns-clause-put c =
    let grown : HasGrown (length c.args.run.now) c.args.heap.now.bins c.grow.new.self.bins c.in-Some.at =
    rw c.in-Some.is at c.in_ok-grow.ensures.exact in
    put_in_new (length c.args.run.now) c.args.at c.in-Some.at (run_cells c.args.run.now)
    c.args.heap.now.bins c.grow.new.self.bins c.fill.new.self.bins c.requires.place grown
    c.in_ok-grow.ensures.held c.fill.ensures.held c.fill.ensures.fresh c.fill.ensures.long
