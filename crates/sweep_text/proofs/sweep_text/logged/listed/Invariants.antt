use Rattle.std.proofs.Common.{◌≡◌, ◌++◌, ◌-◌}
use Rattle.hive_model.specs.Recovery.{bit}
use Rattle.sweep_text.specs.sweep_text.Logged.{listed}
use Rattle.sweep_text.proofs.sweep_text.logged.listed.Given as goal

abbrev pub invariant-loop-i : goal.invariant-loop-i
invariant-loop-i l = l.sectors ++ listed (bit l.bits) l.i (l.count - l.i) ≡ listed (bit l.bits) 0 l.count
