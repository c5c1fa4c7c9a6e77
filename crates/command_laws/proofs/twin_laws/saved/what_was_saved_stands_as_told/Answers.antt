use Rattle.command_laws.proofs.TwinLawsToldLemmas.{held_stands, saved_stands}
use Rattle.command_laws.proofs.twin_laws.saved.what_was_saved_stands_as_told.Goals as goal

pub returns-clause-held : goal.returns-clause-held
returns-clause-held c = λ words old new disk hive alt decides tells hive_is alt_is.
    held_stands words old new disk hive alt hive_is alt_is decides tells

pub returns-clause-saved : goal.returns-clause-saved
returns-clause-saved c = saved_stands
