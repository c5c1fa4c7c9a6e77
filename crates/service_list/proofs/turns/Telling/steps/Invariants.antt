use Rattle.std.proofs.Common.{◌≡◌, length, map}
use Rattle.safe_boot.specs.Lines.{line_of}
use Rattle.service_list.specs.Turns.{turns_from}
use Rattle.service_list.proofs.turns.Telling.steps.Given as goal

abbrev pub invariant-lines : goal.invariant-lines
invariant-lines l = turns_from l.self (map line_of l.rest) ≡ turns_from l.initial.self (map line_of l.lines)

abbrev pub decreases-lines : goal.decreases-lines
decreases-lines l = length l.rest
