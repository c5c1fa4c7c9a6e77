use Rattle.std.proofs.Common.{refl}
use Rattle.start_laws.specs.Written.{report}
use Rattle.start_laws.proofs.waiting.what_an_entry_needs_goes_first.Goals as goal

pub returns : goal.returns
unfolding report
returns c = refl
