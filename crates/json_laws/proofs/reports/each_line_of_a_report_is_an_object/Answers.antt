use Rattle.json_laws.proofs.ReportLemmas.{lines_print}
use Rattle.json_laws.proofs.reports.each_line_of_a_report_is_an_object.Goals as goal

pub returns : goal.returns
returns c = λ reader report lines is. lines_print reader lines is.read
