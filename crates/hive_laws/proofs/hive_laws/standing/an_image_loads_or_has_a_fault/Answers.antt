use Rattle.std.specs.Prelude.{refl}
use Rattle.hive_model.specs.Bins.{spelled}
use Rattle.hive_cells.proofs.Again.{one_list, not_both}
use Rattle.hive_read.proofs.Loading.{one-load, load-or-fault}
use Rattle.hive_laws.proofs.FirstFault.{one_first, loads_or_not}
use Rattle.hive_laws.proofs.hive_laws.standing.an_image_loads_or_has_a_fault.Goals as goal

pub returns-clause-one_state : goal.returns-clause-one_state
returns-clause-one_state c = one-load one_list

pub returns-clause-not_both : goal.returns-clause-not_both
returns-clause-not_both c =
    load-or-fault one_list (λ bins fault is fails. not_both (spelled 0 bins) bins fault is refl fails)

pub returns-clause-one_fault : goal.returns-clause-one_fault
returns-clause-one_fault c = one_first

pub returns-clause-one_of_the_two : goal.returns-clause-one_of_the_two
returns-clause-one_of_the_two c = loads_or_not
