use Rattle.command_laws.proofs.DifferLemmas.{least}
use Rattle.command_laws.proofs.control_laws.order.a_start_takes_no_more.Goals as goal

pub returns : goal.returns
returns c = least
