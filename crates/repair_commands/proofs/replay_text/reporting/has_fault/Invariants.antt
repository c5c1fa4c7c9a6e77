use Rattle.std.proofs.Common.{◌≡◌, drop}
use Rattle.repair_commands.specs.replay_text.Report.{has_fault}
use Rattle.repair_commands.proofs.replay_text.reporting.has_fault.Given as goal

abbrev pub invariant-loop-line : goal.invariant-loop-line
invariant-loop-line l = has_fault l.lines ≡ has_fault (drop l.line-index l.lines)
