use Rattle.std.proofs.Common.{◌≡◌, length}
use Rattle.boot_script.specs.boot_script.Words.{without_spaces}
use Rattle.boot_script.proofs.boot_script.words.after_spaces.Given as goal

abbrev pub invariant-loop-rest : goal.invariant-loop-rest
invariant-loop-rest l = without_spaces l.rest ≡ without_spaces l.text

abbrev pub decreases-loop-rest : goal.decreases-loop-rest
decreases-loop-rest l = length l.rest
