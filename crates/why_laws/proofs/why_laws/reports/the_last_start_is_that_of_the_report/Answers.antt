use Rattle.why_laws.proofs.RunLemmas.{last_start_reported}
use Rattle.why_laws.proofs.why_laws.reports.the_last_start_is_that_of_the_report.Goals as goal

pub returns : goal.returns
returns c = last_start_reported
