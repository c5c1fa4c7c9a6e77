use Rattle.std.proofs.Common.{◌≡◌, length, map}
use Rattle.safe_boot.specs.Lines.{line_of}
use Rattle.set_diff.specs.Boots.{boot_from}
use Rattle.set_diff.proofs.boot.QuietBoot.steps.Given as goal

abbrev pub invariant-lines : goal.invariant-lines
invariant-lines l = boot_from l.self (map line_of l.rest) ≡ boot_from l.initial.self (map line_of l.lines)

abbrev pub decreases-lines : goal.decreases-lines
decreases-lines l = length l.rest
