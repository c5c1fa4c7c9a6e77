use Rattle.start_laws.proofs.NumbersLemmas.{begin_numbers, save_numbers}
use Rattle.start_laws.proofs.changes.the_select_line_says_what_select_is.Goals as goal

pub returns-clause-begin : goal.returns-clause-begin
returns-clause-begin c = begin_numbers

pub returns-clause-save : goal.returns-clause-save
returns-clause-save c = save_numbers
