use Rattle.std.proofs.Common.{refl}
use Rattle.hive_model.specs.Edit.{edited}
use Rattle.start_model.specs.Sets.{usable_numbers_of, free_number_of}
use Rattle.start_laws.proofs.numbers.a_set_that_no_number_names_retires.Goals as goal

pub returns-clause-alone : goal.returns-clause-alone
unfolding edited usable_numbers_of free_number_of
returns-clause-alone c = refl

pub returns-clause-guarded : goal.returns-clause-guarded
unfolding edited usable_numbers_of free_number_of
returns-clause-guarded c = refl

pub returns-clause-failed : goal.returns-clause-failed
unfolding edited usable_numbers_of free_number_of
returns-clause-failed c = refl
