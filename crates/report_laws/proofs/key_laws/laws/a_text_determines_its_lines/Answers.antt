use Rattle.report_laws.proofs.ReportLemmas.{same_report}
use Rattle.report_laws.proofs.key_laws.laws.a_text_determines_its_lines.Goals as goal

pub returns : goal.returns
returns c = same_report
