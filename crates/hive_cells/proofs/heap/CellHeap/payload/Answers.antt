use Rattle.hive_cells.proofs.Spots.{payload_placed}
use Rattle.hive_cells.proofs.heap.CellHeap.payload.Goals as goal

pub returns-in-Some-true-default-clause-exact : goal.returns-in-Some-true-default-clause-exact
returns-in-Some-true-default-clause-exact c =
    let h = c.in-Some-true-default in
    let text = c.self.inside.bytes.items in
    let e = c.as_slice-bytes.ensures.value in
    rw (e, ← c.self.view_is) (payload_placed text c.self.inside.starts.items c.args.at h.size c.self.invariant
    (rw (h.field-0-0-test, e) at h.ensures.exact))
