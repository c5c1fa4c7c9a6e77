use Rattle.salvage_laws.proofs.PlainLemmas.{plain-loads, plain-refused, plain-silent}
use Rattle.salvage_laws.proofs.plain.a_plain_hive_is_salvaged_as_it_loads.Goals as goal

pub returns-clause-loads : goal.returns-clause-loads
returns-clause-loads c = plain-loads

pub returns-clause-refused : goal.returns-clause-refused
returns-clause-refused c = plain-refused

pub returns-clause-silent : goal.returns-clause-silent
returns-clause-silent c = plain-silent
