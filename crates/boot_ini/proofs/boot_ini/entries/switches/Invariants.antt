use Rattle.std.proofs.Common.{◌≡◌, ◌++◌, length}
use Rattle.boot_ini.specs.boot_ini.Entries.{switches_in}
use Rattle.boot_ini.proofs.boot_ini.entries.switches.Given as goal

abbrev pub invariant-loop-rest : goal.invariant-loop-rest
invariant-loop-rest l = l.found ++ switches_in l.rest ≡ switches_in l.text

abbrev pub decreases-loop-rest : goal.decreases-loop-rest
decreases-loop-rest l = length l.rest
