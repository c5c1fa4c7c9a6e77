use Rattle.salvage_laws.proofs.OpenLemmas.{broken_alike, clean_alike}
use Rattle.salvage_laws.proofs.laws.a_log_is_read_for_a_dirty_hive_alone.Goals as goal

pub returns-clause-broken : goal.returns-clause-broken
returns-clause-broken c = broken_alike

pub returns-clause-clean : goal.returns-clause-clean
returns-clause-clean c = clean_alike
