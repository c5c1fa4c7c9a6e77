use Rattle.hive_cells.proofs.Either.{either_one}
use Rattle.hive_cells.proofs.laws.one_of_the_two.Goals as goal

pub returns : goal.returns
returns c = either_one
