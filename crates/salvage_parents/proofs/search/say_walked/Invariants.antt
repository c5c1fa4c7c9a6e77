use Rattle.std.proofs.Common.{◌≡◌, ◌++◌, map, length}
use Rattle.std.specs.Vec.Iter.{into_iter_items}
use Rattle.salvage_parents.specs.declared.search.ParentLine.TheVariants as parents
use Rattle.salvage_parents.proofs.search.say_walked.Given as goal

abbrev pub invariant-lines : goal.invariant-lines
invariant-lines l = l.said ++ map parents.Walked (into_iter_items l.rest) ≡ l.fn.said ++ map parents.Walked l.fn.lines.items

abbrev pub decreases-lines : goal.decreases-lines
decreases-lines l = length (into_iter_items l.rest)
