use Rattle.std.proofs.Common.{◌≡◌, ◌+◌, length}
use Rattle.why_lacks.specs.why_items.Vertices.{places_from}
use Rattle.why_lacks.proofs.why_items.vertices.places_of.Given as goal

abbrev pub invariant-view : goal.invariant-view
invariant-view l = (places_from l.at l.rest l.left ≡ places_from 0 l.run.views l.number) × (l.at + length l.rest ≡ length l.run.views)

abbrev pub decreases-view : goal.decreases-view
decreases-view l = length l.rest
