use Rattle.report_laws.proofs.CheckLines.{check_report}
use Rattle.report_laws.proofs.report_json_laws.reports.a_report_of_check_is_read.Goals as goal

pub returns : goal.returns
returns c = check_report
