use Rattle.report_laws.proofs.ShowLines.{show_report}
use Rattle.report_laws.proofs.report_json_laws.reports.a_report_of_show_is_read.Goals as goal

pub returns : goal.returns
returns c = show_report
