use Rattle.report_laws.proofs.SalvageLines.{salvage_report}
use Rattle.report_laws.proofs.report_json_laws.reports.a_report_of_salvage_is_read.Goals as goal

pub returns : goal.returns
returns c = salvage_report
