use Rattle.std.proofs.Common.{◌≡◌, ◌≤◌}
use Rattle.hive_model.specs.Recovery.{bit, rank}
use Rattle.windows_logs.proofs.dirt_log.reading.count_bits.Given as goal

abbrev pub invariant-loop-i : goal.invariant-loop-i
invariant-loop-i l = record { on_is : l.on ≡ rank (bit l.bits) l.i; small : l.on ≤ l.i }
