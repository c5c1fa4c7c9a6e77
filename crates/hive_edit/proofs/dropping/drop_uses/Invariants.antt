use Rattle.std.proofs.Common.{◌≡◌, take}
use Rattle.hive_edit.specs.Dropped.{AreDropped}
use Rattle.hive_edit.proofs.dropping.drop_uses.Given as goal

abbrev pub invariant-loop-used : goal.invariant-loop-used
invariant-loop-used l =
    record {
      dropped : AreDropped l.uses (take l.used-index l.uses) l.fn.heap.bins l.heap.bins;
      base : l.heap.base ≡ l.fn.heap.base;
    }
