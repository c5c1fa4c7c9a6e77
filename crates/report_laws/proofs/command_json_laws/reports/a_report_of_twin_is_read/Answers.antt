use Rattle.report_laws.proofs.TwinLines.{twin_report, twin_lines}
use Rattle.report_laws.proofs.command_json_laws.reports.a_report_of_twin_is_read.Goals as goal

pub returns-clause-read : goal.returns-clause-read
returns-clause-read c = twin_report

pub returns-clause-lines : goal.returns-clause-lines
returns-clause-lines c = twin_lines
