use Rattle.std.proofs.Common.{◌+◌, arith}
use Rattle.hive_cells.specs.Holes.{IsLowestHole, NoneFits}
use Rattle.hive_edit.proofs.RunLemmas.{hole_place, new_place}
use Rattle.hive_edit.proofs.cells.place_for.Goals as goal

pub returns-in-Some : goal.returns-in-Some
returns-in-Some c =
    let found : IsLowestHole c.args.size c.args.heap.now.bins c.in-Some.at = rw c.in-Some.is at c.fit.ensures in
    hole_place c.args.size c.in-Some.at c.args.heap.now.bins found c.long-long.ensures.fits

pub returns-then-long-size : goal.returns-then-long-size
returns-then-long-size c =
    let none : NoneFits c.args.size c.args.heap.now.bins = rw c.in-None.is at c.fit.ensures in
    (none, omega (arith, c.long-long.ensures.long, c.if-long-size.true))

pub returns-else-long-size : goal.returns-else-long-size
returns-else-long-size c =
    let none : NoneFits c.args.size c.args.heap.now.bins = rw c.in-None.is at c.fit.ensures in
    new_place c.args.size (c.long-long.result + 32) c.args.heap.now.bins none
    (omega (arith, c.long-long.ensures.long, c.if-long-size.false)) (omega (arith, c.long-long.ensures.long))
