use Rattle.report_laws.proofs.StartTexts.{starts_are_lines}
use Rattle.report_laws.proofs.command_json_laws.reports.each_line_of_run_is_one_line.Goals as goal

pub returns : goal.returns
returns c = starts_are_lines
