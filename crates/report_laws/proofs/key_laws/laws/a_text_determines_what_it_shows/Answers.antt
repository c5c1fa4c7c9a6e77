use Rattle.report_laws.proofs.ReportLemmas.{same_report}
use Rattle.report_laws.proofs.PlaceLemmas.{lines_fit, same_shown}
use Rattle.key_text.specs.Found.{lines_of}
use Rattle.report_laws.proofs.key_laws.laws.a_text_determines_what_it_shows.Goals as goal

pub returns : goal.returns
returns c = λ form root other path way depth security held holds e.
    same_shown root other path way depth security held holds
    (same_report form (lines_of root path depth security) (lines_of other way depth security)
    (lines_fit root path depth security held) (lines_fit other way depth security holds) e)
