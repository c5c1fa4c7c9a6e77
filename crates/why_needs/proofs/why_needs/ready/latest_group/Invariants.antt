use Rattle.std.proofs.Common.{◌≡◌, length}
use Rattle.why_needs.specs.why_needs.Met.{group_met}
use Rattle.why_needs.specs.why_needs.Ready.{latest}
use Rattle.why_needs.proofs.why_needs.ready.latest_group.Given as goal

abbrev pub invariant-group : goal.invariant-group
invariant-group l = latest (group_met l.starts) l.so_far l.rest ≡ latest (group_met l.starts) l.fn.before l.groups

abbrev pub decreases-group : goal.decreases-group
decreases-group l = length l.rest
