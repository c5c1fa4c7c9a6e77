use Rattle.std.proofs.Common.{◌≡◌, length}
use Rattle.boot_ini.specs.arc_path.Reading.{without_last_backslashes}
use Rattle.boot_ini.proofs.arc_path.reading.trimmed.Given as goal

abbrev pub invariant-loop-rest : goal.invariant-loop-rest
invariant-loop-rest l = without_last_backslashes l.rest ≡ without_last_backslashes l.text

abbrev pub decreases-loop-rest : goal.decreases-loop-rest
decreases-loop-rest l = length l.rest
