use Rattle.command_laws.proofs.ControlLawsCallLemmas.{command_calls}
use Rattle.command_laws.proofs.control_laws.calls.a_command_is_its_call.Goals as goal

pub returns : goal.returns
returns c = command_calls
