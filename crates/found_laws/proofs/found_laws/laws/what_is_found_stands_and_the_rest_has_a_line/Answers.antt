use Rattle.found_laws.proofs.Ending.{found-is, all-apart}
use Rattle.found_laws.proofs.found_laws.laws.what_is_found_stands_and_the_rest_has_a_line.Goals as goal

pub returns-clause-found : goal.returns-clause-found
returns-clause-found c = found-is

pub returns-clause-apart : goal.returns-clause-apart
returns-clause-apart c = all-apart
