use Rattle.std.proofs.Common.{◌≡◌, false}
use Rattle.std.specs.Prelude.{Contains}
use Rattle.std.proofs.lemmas.List.Elements.{All-contains}
use Rattle.hive_model.specs.Asked.{primary_at}
use Rattle.hive_laws.proofs.SavedLemmas.{left_files_load, left_primary_loads, taken_files_load}
use Rattle.hive_laws.proofs.saved_laws.taken.taken_files_load.Goals as goal

pub returns-clause-left : goal.returns-clause-left
returns-clause-left c = λ these held image flight primary log each left primary_is log_is untorn.
    left_files_load (λ state dirty. Contains these (state, dirty)) held image flight primary log each left
    primary_is log_is (untorn (primary_at 0))

pub returns-clause-taken : goal.returns-clause-taken
returns-clause-taken c = λ these disk image later primary log each left primary_is still log_is untorn.
    taken_files_load (λ state dirty. Contains these (state, dirty)) disk image later primary log each left
    primary_is still log_is (untorn (primary_at 0))

pub returns-clause-alone : goal.returns-clause-alone
returns-clause-alone c = λ these held image flight primary log each clean left primary_is.
    left_primary_loads (λ state dirty. Contains these (state, dirty)) held image flight primary log each left
    (λ state dirty is. All-contains (λ s. s.1 ≡ false) these (state, dirty) clean is)
    primary_is
