use Rattle.report_laws.proofs.MakeLines.{make_report, make_lines}
use Rattle.report_laws.proofs.command_json_laws.reports.a_report_of_make_is_read.Goals as goal

pub returns-clause-read : goal.returns-clause-read
returns-clause-read c = make_report

pub returns-clause-lines : goal.returns-clause-lines
returns-clause-lines c = make_lines
