use Rattle.std.proofs.Common.{◌≡◌, ◌++◌, map}
use Rattle.why_lacks.specs.why_cycle.Shared.{ways_or_none}
use Rattle.why_lacks.proofs.why_cycle.shared.push_ways.Given as goal

abbrev pub invariant-loop-one : goal.invariant-loop-one
invariant-loop-one l = l.rows.items ≡ l.initial.rows.items ++ map ways_or_none l.yielded
