use Rattle.report_laws.proofs.SweepLines.{swept_report}
use Rattle.report_laws.proofs.report_json_laws.reports.a_report_of_sweep_is_read.Goals as goal

pub returns : goal.returns
returns c = swept_report
