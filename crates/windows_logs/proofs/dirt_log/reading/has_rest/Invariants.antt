use Rattle.std.proofs.Common.{◌≡◌}
use Rattle.hive_model.specs.Recovery.{bit}
use Rattle.windows_logs.specs.dirt_log.Dirt.{has_rest}
use Rattle.windows_logs.proofs.dirt_log.reading.has_rest.Given as goal

abbrev pub invariant-loop-i : goal.invariant-loop-i
invariant-loop-i l = l.all ≡ has_rest (bit l.bits) l.have l.i
