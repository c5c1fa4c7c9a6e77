use Rattle.report_laws.proofs.WhatifLines.{whatif_report}
use Rattle.report_laws.proofs.report_json_laws.reports.a_report_of_whatif_is_read.Goals as goal

pub returns : goal.returns
returns c = whatif_report
