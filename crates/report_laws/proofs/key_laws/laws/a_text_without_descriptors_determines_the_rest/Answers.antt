use Rattle.std.proofs.Common.{false}
use Rattle.report_laws.proofs.ReportLemmas.{same_report}
use Rattle.report_laws.proofs.PlaceLemmas.{lines_fit, same_bare}
use Rattle.key_text.specs.Found.{lines_of}
use Rattle.report_laws.proofs.key_laws.laws.a_text_without_descriptors_determines_the_rest.Goals as goal

pub returns : goal.returns
returns c = λ form root other path way depth deep place held holds is few e.
    same_bare root other path way depth deep place held holds is few
    (same_report form (lines_of root path depth false) (lines_of other way deep false)
    (lines_fit root path depth false held) (lines_fit other way deep false holds) e)
