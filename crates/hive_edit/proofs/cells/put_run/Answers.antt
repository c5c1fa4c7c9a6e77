use Rattle.std.proofs.Common.{length, arith}
use Rattle.hive_cells.specs.Held.{run_cells}
use Rattle.hive_edit.proofs.RunLemmas.{is_new, is_hole, put_in_hole}
use Rattle.hive_edit.proofs.cells.put_run.Goals as goal

pub put_behind-requires-clause-few : goal.put_behind-requires-clause-few
put_behind-requires-clause-few c = omega (arith, c.requires.place.inside)

pub put_behind-requires-clause-place : goal.put_behind-requires-clause-place
put_behind-requires-clause-place c =
    is_new (length c.args.run.now) c.args.at c.args.heap.now.bins c.requires.place (omega arith)

pub fill-requires-clause-hole : goal.fill-requires-clause-hole
fill-requires-clause-hole c = is_hole (length c.args.run.now) c.args.at c.args.heap.now.bins c.requires.place (omega arith)

pub returns-clause-put : goal.returns-clause-put
returns-clause-put c =
    put_in_hole (length c.args.run.now) c.args.at (run_cells c.args.run.now)
    c.args.heap.now.bins c.fill.new.self.bins c.fill.ensures.held c.fill.ensures.fresh c.fill.ensures.long
