use Rattle.whatif_laws.proofs.LeaningLemmas.{lines_of}
use Rattle.whatif_laws.proofs.leaning.a_line_stands_for_each_that_leans.Goals as goal

pub returns : goal.returns
returns c = lines_of
