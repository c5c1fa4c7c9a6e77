use Rattle.whatif_laws.proofs.EditedLemmas.{tells_edited_as_run}
use Rattle.whatif_laws.proofs.ReportLemmas.{tells_as_run, tells_off_as_run}
use Rattle.whatif_laws.proofs.reports.what_is_told_is_what_a_run_reports.Goals as goal

pub returns : goal.returns
returns c = record { failure = tells_as_run; off = tells_off_as_run; edited = tells_edited_as_run }
