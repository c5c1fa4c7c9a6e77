use Rattle.hive_cells.proofs.Steps.{kept_seen}
use Rattle.hive_cells.proofs.heap.CellHeap.opens.Goals as goal

pub returns : goal.returns
returns c = rw (← c.self.view_is) (kept_seen c.self.inside.bytes.items c.self.inside.starts.items c.self.invariant).0
