use Rattle.std.proofs.Common.{◌≡◌}
use Rattle.windows_logs.specs.marvin_hash.Marvin.{state_after}
use Rattle.windows_logs.proofs.marvin_hash.state_of_words.Given as goal

abbrev pub invariant-loop-n : goal.invariant-loop-n
invariant-loop-n l = l.state ≡ state_after l.n l.bytes
