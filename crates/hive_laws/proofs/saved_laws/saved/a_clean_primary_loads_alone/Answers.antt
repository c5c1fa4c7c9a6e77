use Rattle.hive_laws.proofs.SavedLemmas.{primary_loads}
use Rattle.hive_laws.proofs.saved_laws.saved.a_clean_primary_loads_alone.Goals as goal

pub returns : goal.returns
returns c = primary_loads
