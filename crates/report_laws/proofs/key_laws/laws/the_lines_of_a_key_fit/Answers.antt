use Rattle.report_laws.proofs.PlaceLemmas.{lines_fit}
use Rattle.report_laws.proofs.key_laws.laws.the_lines_of_a_key_fit.Goals as goal

pub returns : goal.returns
returns c = lines_fit
