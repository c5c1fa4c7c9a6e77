use Rattle.salvage_laws.proofs.HiveLemmas.{hive-loads, hive-refused, hive-silent}
use Rattle.salvage_laws.proofs.hives.a_hive_is_salvaged_as_it_loads.Goals as goal

pub returns-clause-loads : goal.returns-clause-loads
returns-clause-loads c = hive-loads

pub returns-clause-refused : goal.returns-clause-refused
returns-clause-refused c = hive-refused

pub returns-clause-silent : goal.returns-clause-silent
returns-clause-silent c = hive-silent
