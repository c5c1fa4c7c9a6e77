use Rattle.hive_cells.proofs.Again.{not_both}
use Rattle.hive_edit.proofs.PackedParents.{packed_parents}
use Rattle.hive_edit.proofs.AnewLemmas.{PackedHere, packed_here, packed_hive}
use Rattle.hive_edit.proofs.edit.of_packed.Goals as goal
use Rattle.hive_edit.proofs.edit.of_packed.Goals.{In_ok-heap}

-- what was packed stands in the heap
here : (c : In_ok-heap) → PackedHere c.args.version c.in_ok-heap.heap c.args.tree.now
here c =
    let is = c.in_ok-packed.ensures in
    packed_here c.args.version c.in_ok-packed.packed c.in-Ok.cells c.in_ok-heap.heap c.args.tree.now is.bins
    c.in-Ok.ensures is.well_formed c.in_ok-heap.ensures.bins
    (packed_parents c.args.version c.args.tree.now c.requires.valid c.tree_fits.ensures c.requires.room)

pub unreachable-requires : goal.unreachable-requires
unreachable-requires c =
    let is = c.in_ok-packed.ensures.bins in
    not_both c.in_ok-packed.packed _ c.in-Err-Fault.field-0-0 is.0 is.1
    (rw c.in-Err-Fault.field-0-is at c.in-Err-Fault.ensures)

pub invariant_of-result : goal.invariant_of-result
invariant_of-result c =
    packed_hive c.args.version c.in_ok-heap.heap c.bulk-bulk.result c.args.tree.now
    (here (goal.at.invariant_of-result c).In_ok-heap) c.requires.valid c.bulk-bulk.ensures

pub returns-clause-tree : goal.returns-clause-tree
returns-clause-tree c = (here (goal.at.returns-clause-tree c).In_ok-heap).tree

pub returns-clause-anew : goal.returns-clause-anew
returns-clause-anew c = (here (goal.at.returns-clause-anew c).In_ok-heap).anew
