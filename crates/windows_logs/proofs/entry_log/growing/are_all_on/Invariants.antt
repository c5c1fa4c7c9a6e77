use Rattle.std.proofs.Common.{◌≡◌}
use Rattle.windows_logs.specs.entry_log.Marks.{all_on}
use Rattle.windows_logs.proofs.entry_log.growing.are_all_on.Given as goal

abbrev pub invariant-loop-i : goal.invariant-loop-i
invariant-loop-i l = l.all ≡ all_on l.marks l.i
