use Rattle.std.proofs.Common.{◌≡◌, length}
use Rattle.device_rule.specs.Database.{first_lines}
use Rattle.device_rule.proofs.database.first_lines.Given as goal

abbrev pub invariant-ids : goal.invariant-ids
invariant-ids l = first_lines l.scope l.rest ≡ first_lines l.scope l.ids

abbrev pub decreases-ids : goal.decreases-ids
decreases-ids l = length l.rest
