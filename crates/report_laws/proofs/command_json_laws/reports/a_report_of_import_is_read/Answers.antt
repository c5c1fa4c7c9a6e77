use Rattle.report_laws.proofs.ImportLines.{import_report, import_lines}
use Rattle.report_laws.proofs.command_json_laws.reports.a_report_of_import_is_read.Goals as goal

pub returns-clause-read : goal.returns-clause-read
returns-clause-read c = import_report

pub returns-clause-lines : goal.returns-clause-lines
returns-clause-lines c = import_lines
