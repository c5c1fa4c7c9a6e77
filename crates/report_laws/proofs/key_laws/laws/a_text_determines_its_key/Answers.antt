use Rattle.std.proofs.Common.{true}
use Rattle.report_laws.proofs.ReportLemmas.{same_report}
use Rattle.report_laws.proofs.PlaceLemmas.{lines_fit, same_place}
use Rattle.key_text.specs.Found.{lines_of}
use Rattle.report_laws.proofs.key_laws.laws.a_text_determines_its_key.Goals as goal

pub returns : goal.returns
returns c = λ form root other path way depth deep place held holds is few e.
    same_place root other path way depth deep place held holds is few
    (same_report form (lines_of root path depth true) (lines_of other way deep true)
    (lines_fit root path depth true held) (lines_fit other way deep true holds) e)
