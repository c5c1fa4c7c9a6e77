use Rattle.salvage_laws.proofs.SavedLemmas.{saved-silent, saved-again}
use Rattle.salvage_laws.proofs.saved.what_is_saved_is_salvaged_as_it_is.Goals as goal

pub returns-clause-silent : goal.returns-clause-silent
returns-clause-silent c = λ base version t save log n x valid numbers room. saved-silent base version t log n x valid numbers room save

pub returns-clause-saved : goal.returns-clause-saved
returns-clause-saved c = λ base version t log n x valid numbers room. saved-again base version t log n x valid numbers room
