use Rattle.command_laws.proofs.AlikeLemmas.{ends_alike}
use Rattle.command_laws.proofs.control_laws.names.names_that_fold_are_one.Goals as goal

pub returns : goal.returns
returns c = ends_alike
