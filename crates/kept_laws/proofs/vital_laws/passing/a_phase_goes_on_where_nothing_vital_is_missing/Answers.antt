use Rattle.kept_laws.proofs.StepLemmas.{goes_on, later, stops}
use Rattle.kept_laws.proofs.vital_laws.passing.a_phase_goes_on_where_nothing_vital_is_missing.Goals as goal

pub returns-clause-goes_on : goal.returns-clause-goes_on
returns-clause-goes_on c = goes_on

pub returns-clause-later : goal.returns-clause-later
returns-clause-later c = later

pub returns-clause-stops : goal.returns-clause-stops
returns-clause-stops c = stops
