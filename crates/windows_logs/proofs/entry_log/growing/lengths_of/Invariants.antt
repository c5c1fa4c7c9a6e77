use Rattle.std.proofs.Common.{◌≡◌, ◌≤◌, ◌*◌}
use Rattle.windows_logs.specs.entry_log.Growing.{lengths_of}
use Rattle.windows_logs.proofs.entry_log.growing.lengths_of.Given as goal

abbrev pub invariant-loop-i : goal.invariant-loop-i
invariant-loop-i l = record { total : l.total ≡ lengths_of l.bytes l.i; small : l.total ≤ 4294967295 * l.i }
