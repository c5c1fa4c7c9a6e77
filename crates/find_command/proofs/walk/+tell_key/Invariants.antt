use Rattle.std.proofs.Common.{◌≡◌, ◌≤◌, length}
use Rattle.hive_model.specs.Tree.{trees}
use Rattle.hive_model.specs.Codes.{weight, weights}
use Rattle.find_rule.specs.Hits.{places_below}
use Rattle.find_command.specs.Tells.{Carries}
use Rattle.find_command.proofs.walk.+tell_key.Given as goal

abbrev pub decreases-tell_key : goal.decreases-tell_key
decreases-tell_key g l = weight l.key.now

abbrev pub decreases-tell_keys : goal.decreases-tell_keys
decreases-tell_keys g l = weights l.keys.now

abbrev pub invariant-tell_keys-keys : goal.invariant-tell_keys-keys
invariant-tell_keys-keys g l = record {
  carries : Carries l.form l.wanted (places_below l.fn.path.items (trees l.keys)) (g.H.Host.state l.fn.host) l.fn.found
      (places_below l.fn.path.items (trees l.rest)) (g.H.Host.state l.host) l.found;
  path : l.path.items ≡ l.fn.path.items;
  fewer : weights l.rest ≤ weights l.keys;
}

abbrev pub decreases-tell_keys-keys : goal.decreases-tell_keys-keys
decreases-tell_keys-keys g l = length l.rest
