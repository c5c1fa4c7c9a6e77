use Rattle.std.proofs.Common.{◌≡◌, length}
use Rattle.std.specs.Map.{values_of}
use Rattle.std.specs.Vec.Iter.{into_iter_items}
use Rattle.salvage_parents.specs.Arranged.{arranged, arranged_onto}
use Rattle.salvage_parents.specs.Named.{AreByName}
use Rattle.salvage_parents.proofs.arranging.by_name.Given as goal

abbrev pub invariant-keys : goal.invariant-keys
invariant-keys l = record {
  so_far : arranged_onto (values_of l.named.entries) (into_iter_items l.rest) ≡ arranged l.fn.keys;
  named : AreByName l.named.entries;
}

abbrev pub decreases-keys : goal.decreases-keys
decreases-keys l = length (into_iter_items l.rest)
