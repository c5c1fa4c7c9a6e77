use Rattle.std.proofs.Common.{◌≡◌, length}
use Rattle.std.specs.Vec.Iter.{into_iter_items}
use Rattle.nt_edge.specs.Crash.{torn}
use Rattle.mem_edge.specs.Views.{held_of, writes_of, Holds}
use Rattle.mem_edge.proofs.image.MemImage.tear_all.Given as goal

abbrev pub invariant-loop-w : goal.invariant-loop-w
invariant-loop-w l = record {
  torn : torn (held_of l.self) (writes_of (into_iter_items l.rest))
      ≡ torn (held_of l.fn.self) (writes_of l.fn.flight.items);
  room : Holds l.self (into_iter_items l.rest);
}

abbrev pub decreases-loop-w : goal.decreases-loop-w
decreases-loop-w l = length (into_iter_items l.rest)
