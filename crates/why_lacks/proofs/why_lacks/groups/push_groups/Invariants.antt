use Rattle.std.proofs.Common.{◌≡◌, ◌++◌, length}
use Rattle.why_lacks.specs.why_lacks.Lacks.{groups_from}
use Rattle.why_lacks.proofs.why_lacks.groups.push_groups.Given as goal

abbrev pub invariant-group : goal.invariant-group
invariant-group l = l.lines ++ groups_from l.needs l.keys l.at l.view l.place l.rest
    ≡ l.initial.lines ++ groups_from l.needs l.keys l.at l.view l.k l.groups

abbrev pub decreases-group : goal.decreases-group
decreases-group l = length l.rest
