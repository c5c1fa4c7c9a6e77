use Rattle.start_laws.proofs.SaveLemmas.{save_of-saves}
use Rattle.start_laws.proofs.changes.a_save_adds_the_clone.Goals as goal

pub returns : goal.returns
returns c = save_of-saves
