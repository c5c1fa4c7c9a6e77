use Rattle.std.proofs.Common.{◌≡◌, ◌++◌}
use Rattle.set_diff.proofs.comparing.put_all.Given as goal

abbrev pub invariant-loop-line : goal.invariant-loop-line
invariant-loop-line l = l.lines ≡ l.initial.lines ++ l.yielded
