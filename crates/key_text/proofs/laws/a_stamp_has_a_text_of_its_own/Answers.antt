use Rattle.key_text.proofs.StampLemmas.{same_stamps}
use Rattle.key_text.proofs.laws.a_stamp_has_a_text_of_its_own.Goals as goal

pub returns : goal.returns
returns c = same_stamps
