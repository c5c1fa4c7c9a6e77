use Rattle.json_laws.proofs.ReportLemmas.{report_told}
use Rattle.json_laws.proofs.reports.the_objects_of_a_report_tell_its_text.Goals as goal

pub returns : goal.returns
returns c = report_told
