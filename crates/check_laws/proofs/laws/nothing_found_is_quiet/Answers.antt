use Rattle.check_laws.proofs.QuietLemmas.{found_is_quiet}
use Rattle.check_laws.proofs.laws.nothing_found_is_quiet.Goals as goal

pub returns : goal.returns
returns c = record { quiet = found_is_quiet }
