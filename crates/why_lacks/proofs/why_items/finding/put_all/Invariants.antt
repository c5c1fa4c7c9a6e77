use Rattle.std.proofs.Common.{◌≡◌, length}
use Rattle.std.specs.Prelude.{nat_eq}
use Rattle.indexmap.specs.IndexSet.{insert_all}
use Rattle.why_lacks.proofs.why_items.finding.put_all.Given as goal

abbrev pub invariant-number : goal.invariant-number
invariant-number l = insert_all nat_eq l.found.keys l.rest ≡ insert_all nat_eq l.initial.found.keys l.numbers

abbrev pub decreases-number : goal.decreases-number
decreases-number l = length l.rest
