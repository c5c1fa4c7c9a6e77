use Rattle.run_laws.proofs.GoLemmas.{enough}
use Rattle.run_laws.proofs.run_laws.going.more_steps_change_nothing.Goals as goal

pub returns : goal.returns
returns c = λ n m le. enough n m le
