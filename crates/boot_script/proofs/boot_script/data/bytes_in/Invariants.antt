use Rattle.std.proofs.Common.{◌≡◌, ◌++◌, length}
use Rattle.boot_script.specs.boot_script.Values.{hex_bytes}
use Rattle.boot_script.proofs.boot_script.data.bytes_in.Given as goal

abbrev pub invariant-loop-rest : goal.invariant-loop-rest
invariant-loop-rest l = l.bytes ++ hex_bytes l.rest ≡ hex_bytes l.fn.word

abbrev pub decreases-loop-rest : goal.decreases-loop-rest
decreases-loop-rest l = length l.rest
