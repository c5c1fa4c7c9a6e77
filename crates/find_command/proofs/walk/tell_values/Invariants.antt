use Rattle.std.proofs.Common.{length}
use Rattle.find_rule.specs.Hits.{values_places}
use Rattle.find_command.specs.Tells.{Carries}
use Rattle.find_command.proofs.walk.tell_values.Given as goal

abbrev pub invariant-values : goal.invariant-values
invariant-values g l =
    Carries l.form l.wanted (values_places l.path l.values) (g.H.Host.state l.fn.host) l.fn.found
    (values_places l.path l.rest) (g.H.Host.state l.host) l.found

abbrev pub decreases-values : goal.decreases-values
decreases-values g l = length l.rest
