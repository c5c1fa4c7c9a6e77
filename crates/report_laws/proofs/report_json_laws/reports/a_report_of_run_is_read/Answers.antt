use Rattle.report_laws.proofs.StartLines.{start_report}
use Rattle.report_laws.proofs.report_json_laws.reports.a_report_of_run_is_read.Goals as goal

pub returns : goal.returns
returns c = start_report
