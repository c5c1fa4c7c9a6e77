use Rattle.command_laws.proofs.FaultLemmas.{other-explained}
use Rattle.command_laws.proofs.reason_laws.faults.a_faulty_second_hive_has_its_reason.Goals as goal

pub returns : goal.returns
returns c = other-explained
