use Rattle.std.proofs.Common.{◌≡◌, ◌++◌, length}
use Rattle.why_lacks.specs.why_lacks.Lacks.{entries_from}
use Rattle.why_lacks.proofs.why_lacks.entries.push_entries.Given as goal

abbrev pub invariant-entry : goal.invariant-entry
invariant-entry l = l.lines ++ entries_from l.needs l.keys l.k l.rest ≡ l.initial.lines ++ entries_from l.needs l.keys 0 l.numbers

abbrev pub decreases-entry : goal.decreases-entry
decreases-entry l = length l.rest
