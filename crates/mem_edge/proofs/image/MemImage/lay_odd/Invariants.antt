use Rattle.std.proofs.Common.{◌≡◌, length}
use Rattle.std.specs.Vec.Iter.{into_iter_items}
use Rattle.hive_model.specs.Image.{overlaid}
use Rattle.mem_edge.specs.Views.{held_of, writes_of, Holds, odd_ones}
use Rattle.mem_edge.proofs.image.MemImage.lay_odd.Given as goal

abbrev pub invariant-loop-w : goal.invariant-loop-w
invariant-loop-w l = record {
  laid : overlaid (held_of l.self) (odd_ones (writes_of (into_iter_items l.rest)))
      ≡ overlaid (held_of l.fn.self) (odd_ones (writes_of l.fn.flight.items));
  room : Holds l.self (into_iter_items l.rest);
}

abbrev pub decreases-loop-w : goal.decreases-loop-w
decreases-loop-w l = length (into_iter_items l.rest)
