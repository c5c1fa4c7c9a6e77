use Rattle.select_keys.proofs.NumberLemmas.{none_marked}
use Rattle.select_keys.proofs.taken.TakenNumbers.new.Goals as goal

pub returns : goal.returns
returns c = none_marked
