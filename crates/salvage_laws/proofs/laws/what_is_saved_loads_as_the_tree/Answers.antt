use Rattle.std.proofs.Common.{[]}
use Rattle.salvage_laws.proofs.LoadLemmas.{saved_loads}
use Rattle.salvage_laws.proofs.laws.what_is_saved_loads_as_the_tree.Goals as goal

pub returns : goal.returns
returns c = λ base version t n x valid numbers room. saved_loads base version t [] n x valid numbers room
