use Rattle.std.proofs.Common.{◌≡◌, ◌++◌}
use Rattle.device_rule.proofs.database.append.Given as goal

abbrev pub invariant-loop-line : goal.invariant-loop-line
invariant-loop-line l = l.lines ≡ l.initial.lines ++ l.yielded
