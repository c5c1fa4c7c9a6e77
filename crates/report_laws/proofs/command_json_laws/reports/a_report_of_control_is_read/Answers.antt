use Rattle.report_laws.proofs.ControlLines.{control_report, control_lines}
use Rattle.report_laws.proofs.command_json_laws.reports.a_report_of_control_is_read.Goals as goal

pub returns-clause-read : goal.returns-clause-read
returns-clause-read c = control_report

pub returns-clause-lines : goal.returns-clause-lines
returns-clause-lines c = control_lines
