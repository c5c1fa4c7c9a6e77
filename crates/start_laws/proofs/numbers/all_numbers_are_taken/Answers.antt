use Rattle.start_laws.proofs.NumberLemmas.{all_numbers, none_free, not_guarded, not_saved, begins_not, goes_on}
use Rattle.start_laws.proofs.numbers.all_numbers_are_taken.Goals as goal

pub returns-clause-such : goal.returns-clause-such
returns-clause-such c = all_numbers

pub returns-clause-none_free : goal.returns-clause-none_free
returns-clause-none_free c = none_free

pub returns-clause-not_guarded : goal.returns-clause-not_guarded
returns-clause-not_guarded c = not_guarded

pub returns-clause-not_saved : goal.returns-clause-not_saved
returns-clause-not_saved c = not_saved

pub returns-clause-begins_not : goal.returns-clause-begins_not
returns-clause-begins_not c = begins_not

pub returns-clause-goes_on : goal.returns-clause-goes_on
returns-clause-goes_on c = goes_on
