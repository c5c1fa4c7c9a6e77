use Rattle.std.proofs.Common.{◌≡◌, ◌++◌, length}
use Rattle.key_text.specs.Found.{spelled}
use Rattle.key_text.proofs.finding.spelled.Given as goal

abbrev pub invariant-path : goal.invariant-path
invariant-path l = l.names.items ++ spelled l.rest l.key ≡ spelled l.path l.root

abbrev pub decreases-path : goal.decreases-path
decreases-path l = length l.rest
