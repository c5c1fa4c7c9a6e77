use Rattle.std.proofs.Common.{sym, ◌∙◌}
use Rattle.hive_cells.proofs.Again.{one_list, one_fault, not_both}
use Rattle.hive_cells.proofs.Either.{either_one}
use Rattle.hive_laws.proofs.hive_laws.heaps.bins_data_are_bins_or_have_a_fault.Goals as goal

pub returns-clause-one_list : goal.returns-clause-one_list
returns-clause-one_list c = λ text bins others is was. one_list bins others is.0 was.0 (sym is.1 ∙ was.1)

pub returns-clause-one_fault : goal.returns-clause-one_fault
returns-clause-one_fault c = one_fault

pub returns-clause-not_both : goal.returns-clause-not_both
returns-clause-not_both c = λ text bins fault is fails. not_both text bins fault is.0 is.1 fails

pub returns-clause-one_of_the_two : goal.returns-clause-one_of_the_two
returns-clause-one_of_the_two c = either_one
