use Rattle.sweep_laws.proofs.TurningLemmas.{column_turns}
use Rattle.sweep_laws.proofs.columns.each_column_turns_once.Goals as goal

pub returns : goal.returns
returns c = column_turns
