use Rattle.edited_cells.proofs.Wellformed.{sound_hive}
use Rattle.edited_cells.proofs.Held.{are_held}
use Rattle.edited_cells.proofs.owners.owned_cells_are_allocated.Goals as goal

pub returns-clause-sound : goal.returns-clause-sound
returns-clause-sound c = sound_hive

pub returns-clause-allocated : goal.returns-clause-allocated
returns-clause-allocated c = λ cells root t well p r o h. (are_held cells root t well).held p r o h
