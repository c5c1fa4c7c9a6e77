use Rattle.report_laws.proofs.SafeLines.{safe_report, safe_lines}
use Rattle.report_laws.proofs.command_json_laws.reports.a_report_of_safe_is_read.Goals as goal

pub returns-clause-read : goal.returns-clause-read
returns-clause-read c = safe_report

pub returns-clause-lines : goal.returns-clause-lines
returns-clause-lines c = safe_lines
