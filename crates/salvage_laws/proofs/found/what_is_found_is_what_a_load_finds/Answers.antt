use Rattle.salvage_laws.proofs.FoundLemmas.{holds-so, fault-so, silent-holds}
use Rattle.salvage_laws.proofs.found.what_is_found_is_what_a_load_finds.Goals as goal

pub returns-clause-holds : goal.returns-clause-holds
returns-clause-holds c = holds-so

pub returns-clause-fault : goal.returns-clause-fault
returns-clause-fault c = fault-so

pub returns-clause-silent : goal.returns-clause-silent
returns-clause-silent c = silent-holds
