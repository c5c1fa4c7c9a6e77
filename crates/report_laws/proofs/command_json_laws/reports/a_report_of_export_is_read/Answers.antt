use Rattle.report_laws.proofs.ExportLines.{export_report, export_lines, export_values}
use Rattle.report_laws.proofs.command_json_laws.reports.a_report_of_export_is_read.Goals as goal

pub returns-clause-read : goal.returns-clause-read
returns-clause-read c = export_report

pub returns-clause-lines : goal.returns-clause-lines
returns-clause-lines c = export_lines

pub returns-clause-values : goal.returns-clause-values
returns-clause-values c = export_values
