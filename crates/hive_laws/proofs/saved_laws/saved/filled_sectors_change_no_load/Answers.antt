use Rattle.hive_laws.proofs.KeptLemmas.{load_stays, clean_load_stays}
use Rattle.hive_laws.proofs.saved_laws.saved.filled_sectors_change_no_load.Goals as goal

pub returns-clause-filled : goal.returns-clause-filled
returns-clause-filled c = load_stays

pub returns-clause-clean : goal.returns-clause-clean
returns-clause-clean c = clean_load_stays
