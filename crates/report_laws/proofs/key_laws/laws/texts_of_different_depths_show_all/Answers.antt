use Rattle.report_laws.proofs.ReportLemmas.{same_report}
use Rattle.report_laws.proofs.PlaceLemmas.{lines_fit, whole_below}
use Rattle.key_text.specs.Found.{lines_of}
use Rattle.report_laws.proofs.key_laws.laws.texts_of_different_depths_show_all.Goals as goal

pub returns : goal.returns
returns c = λ form root other path way depth deep security place held holds is lt e.
    whole_below root other path way depth deep security place held holds is lt
    (same_report form (lines_of root path depth security) (lines_of other way deep security)
    (lines_fit root path depth security held) (lines_fit other way deep security holds) e)
