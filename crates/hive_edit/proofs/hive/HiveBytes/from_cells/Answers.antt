use Rattle.hive_edit.proofs.HiveLemmas.{hive_opened, hive_taken, taken_valid}
use Rattle.hive_edit.proofs.hive.HiveBytes.from_cells.Goals as goal

pub invariant_of-result : goal.invariant_of-result
invariant_of-result c =
    let j = c.in_ok-bulk.ensures.exact in
    hive_opened c.args.cells c.in_ok-heap.heap.bins c.args.root c.args.version c.in_ok-bulk.bulk j.tree c.in_ok-heap.ensures.bins
    j.stands j.valid j.bulk

pub returns-clause-exact : goal.returns-clause-exact
returns-clause-exact c =
    let j = c.in_ok-bulk.ensures.exact in
    hive_taken c.args.cells c.in_ok-heap.heap c.args.root c.args.version j.tree c.in_ok-heap.ensures.bins c.in_ok-heap.ensures.base j.stands j.passes

pub returns-clause-valid : goal.returns-clause-valid
returns-clause-valid c =
    let j = c.in_ok-bulk.ensures.exact in
    taken_valid c.args.cells c.in_ok-heap.heap.bins c.args.root c.args.version j.tree c.in_ok-heap.ensures.bins j.stands j.valid
