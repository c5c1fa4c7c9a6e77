use Rattle.boot_ini.proofs.FaultLemmas.{first_fault}
use Rattle.boot_ini.proofs.NamedLemmas.{fault_named}
use Rattle.boot_ini.proofs.arc_path.laws.the_first_fault_from_the_left_is_named.Goals as goal

pub returns : goal.returns
returns c = record { named = fault_named; first = first_fault }
