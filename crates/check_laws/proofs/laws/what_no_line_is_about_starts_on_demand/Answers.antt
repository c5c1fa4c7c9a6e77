use Rattle.check_laws.proofs.DemandLemmas.{none_about_starts}
use Rattle.check_laws.proofs.laws.what_no_line_is_about_starts_on_demand.Goals as goal

pub returns : goal.returns
returns c = record { starts = none_about_starts }
