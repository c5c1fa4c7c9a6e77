use Rattle.report_laws.proofs.DiffLines.{diff_report}
use Rattle.report_laws.proofs.report_json_laws.reports.a_report_of_diff_is_read.Goals as goal

pub returns : goal.returns
returns c = diff_report
