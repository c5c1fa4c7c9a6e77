use Rattle.hive_laws.proofs.Saved.{saved_alike, saved_loads}
use Rattle.hive_laws.proofs.hive_laws.recovery.saved_files_are_recovered_alike.Goals as goal

pub returns-clause-recovered : goal.returns-clause-recovered
returns-clause-recovered c =
    λ image primary log block recovered are first ok. saved_alike image primary log block are first recovered ok

pub returns-clause-loads : goal.returns-clause-loads
returns-clause-loads c = λ image primary log block state dirty are first loads. saved_loads image primary log block are
    first state dirty loads
