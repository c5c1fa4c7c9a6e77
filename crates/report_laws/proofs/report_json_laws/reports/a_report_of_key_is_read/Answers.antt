use Rattle.report_laws.proofs.KeyLines.{key_report}
use Rattle.report_laws.proofs.report_json_laws.reports.a_report_of_key_is_read.Goals as goal

pub returns : goal.returns
returns c = key_report
