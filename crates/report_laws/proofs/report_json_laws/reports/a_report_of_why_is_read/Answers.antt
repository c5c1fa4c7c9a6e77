use Rattle.report_laws.proofs.WhyLines.{why_report}
use Rattle.report_laws.proofs.report_json_laws.reports.a_report_of_why_is_read.Goals as goal

pub returns : goal.returns
returns c = why_report
