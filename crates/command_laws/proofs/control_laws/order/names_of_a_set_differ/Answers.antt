use Rattle.command_laws.proofs.DifferLemmas.{names_differ, default_holds}
use Rattle.command_laws.proofs.control_laws.order.names_of_a_set_differ.Goals as goal

pub returns-clause-differ : goal.returns-clause-differ
returns-clause-differ c = names_differ

pub returns-clause-default : goal.returns-clause-default
returns-clause-default c = default_holds
