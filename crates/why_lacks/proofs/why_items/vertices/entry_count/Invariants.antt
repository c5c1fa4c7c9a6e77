use Rattle.std.proofs.Common.{◌≡◌, ◌+◌, length}
use Rattle.why_lacks.specs.why_items.Vertices.{entry_count}
use Rattle.why_lacks.proofs.why_items.vertices.entry_count.Given as goal

abbrev pub invariant-view : goal.invariant-view
invariant-view l = l.sum + entry_count l.rest ≡ entry_count l.views

abbrev pub decreases-view : goal.decreases-view
decreases-view l = length l.rest
