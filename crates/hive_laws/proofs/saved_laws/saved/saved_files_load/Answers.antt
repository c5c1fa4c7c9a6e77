use Rattle.hive_model.specs.Asked.{primary_at}
use Rattle.hive_laws.proofs.SavedLemmas.{files_load}
use Rattle.hive_laws.proofs.saved_laws.saved.saved_files_load.Goals as goal

pub returns-clause-untorn : goal.returns-clause-untorn
returns-clause-untorn c = λ image primary log state dirty primary_is log_is untorn.
    files_load image primary log state dirty primary_is log_is (untorn (primary_at 0))

pub returns-clause-block : goal.returns-clause-block
returns-clause-block c = files_load
