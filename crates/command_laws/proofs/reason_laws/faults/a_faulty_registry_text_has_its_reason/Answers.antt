use Rattle.command_laws.proofs.FaultLemmas.{reg-explained}
use Rattle.command_laws.proofs.reason_laws.faults.a_faulty_registry_text_has_its_reason.Goals as goal

pub returns : goal.returns
returns c = reg-explained
