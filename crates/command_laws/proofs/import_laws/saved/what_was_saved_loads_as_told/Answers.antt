use Rattle.command_laws.proofs.ImportLawsToldLemmas.{held_loads, saved_loads}
use Rattle.command_laws.proofs.import_laws.saved.what_was_saved_loads_as_told.Goals as goal

pub returns-clause-held : goal.returns-clause-held
returns-clause-held c = λ form words old new disk hive log decides tells hive_is log_is untorn.
    held_loads form words old new disk hive log hive_is log_is untorn decides tells

pub returns-clause-saved : goal.returns-clause-saved
returns-clause-saved c = saved_loads
