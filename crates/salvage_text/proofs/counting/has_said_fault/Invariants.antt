use Rattle.std.proofs.Common.{◌≡◌, drop}
use Rattle.std.specs.List.{list_any}
use Rattle.salvage_text.specs.Counts.{is_said_fault}
use Rattle.salvage_text.proofs.counting.has_said_fault.Given as goal

abbrev pub invariant-loop-line : goal.invariant-loop-line
invariant-loop-line l = list_any is_said_fault l.lines ≡ list_any is_said_fault (drop l.line-index l.lines)
