use Rattle.key_text.proofs.LawLemmas.{depth_begins}
use Rattle.key_text.proofs.laws.a_deeper_report_begins_with_the_key.Goals as goal

pub returns : goal.returns
returns c = depth_begins
