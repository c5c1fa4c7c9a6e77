use Rattle.edited_cells.proofs.Lessening.{lessened_size, lessened_strain}
use Rattle.edited_cells.proofs.deletion.a_key_takes_its_size_along.Goals as goal

pub returns-clause-size : goal.returns-clause-size
returns-clause-size c = lessened_size

pub returns-clause-strain : goal.returns-clause-strain
returns-clause-strain c = lessened_strain
