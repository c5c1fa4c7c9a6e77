use Rattle.kept_laws.proofs.SaveLemmas.{event_saves}
use Rattle.kept_laws.proofs.logon_laws.saves.a_set_is_saved_after_a_good_logon.Goals as goal

pub returns : goal.returns
returns c = event_saves
