use Rattle.std.proofs.Common.{refl}
use Rattle.hive_model.specs.Bins.{header_at, size_at}
use Rattle.hive_laws.specs.hive_laws.Samples.{root_alone}
use Rattle.hive_examples.proofs.forms.faults_of_bins_and_cells.Goals as goal

pub returns-clause-sound : goal.returns-clause-sound
unfolding header_at root_alone
returns-clause-sound c = refl

pub returns-clause-sign : goal.returns-clause-sign
unfolding header_at root_alone
returns-clause-sign c = refl

pub returns-clause-offset : goal.returns-clause-offset
unfolding header_at root_alone
returns-clause-offset c = refl

pub returns-clause-size : goal.returns-clause-size
unfolding header_at root_alone
returns-clause-size c = refl

pub returns-clause-fits : goal.returns-clause-fits
unfolding size_at
returns-clause-fits c = refl

pub returns-clause-past : goal.returns-clause-past
unfolding size_at
returns-clause-past c = refl

pub returns-clause-uneven : goal.returns-clause-uneven
unfolding size_at
returns-clause-uneven c = refl

pub returns-clause-small : goal.returns-clause-small
unfolding size_at
returns-clause-small c = refl
