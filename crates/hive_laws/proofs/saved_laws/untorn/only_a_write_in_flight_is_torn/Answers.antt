use Rattle.hive_laws.proofs.UntornLemmas.{files_untorn, placed_untorn, written_untorn, still_untorn, torn_in_flight}
use Rattle.hive_laws.proofs.saved_laws.untorn.only_a_write_in_flight_is_torn.Goals as goal

pub returns-clause-files : goal.returns-clause-files
returns-clause-files c = files_untorn

pub returns-clause-placed : goal.returns-clause-placed
returns-clause-placed c = placed_untorn

pub returns-clause-written : goal.returns-clause-written
returns-clause-written c = written_untorn

pub returns-clause-still : goal.returns-clause-still
returns-clause-still c = still_untorn

pub returns-clause-torn : goal.returns-clause-torn
returns-clause-torn c = torn_in_flight
