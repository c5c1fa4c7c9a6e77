use Rattle.report_laws.proofs.PlaceLemmas.{same_deeper}
use Rattle.report_laws.proofs.key_laws.laws.a_depth_past_the_last_level_adds_nothing.Goals as goal

pub returns : goal.returns
returns c = same_deeper
