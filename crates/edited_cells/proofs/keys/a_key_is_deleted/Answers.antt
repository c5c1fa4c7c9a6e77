use Rattle.edited_cells.proofs.KeySteps.{a_key_deleted}
use Rattle.edited_cells.proofs.keys.a_key_is_deleted.Goals as goal

pub returns : goal.returns
returns c = a_key_deleted
