use Rattle.hive_laws.proofs.Room.{sizes_sum, sizes_of_all_sum, lists_sum}
use Rattle.hive_laws.proofs.hive_laws.sizes.sizes_add_up.Goals as goal

pub returns-clause-tree : goal.returns-clause-tree
returns-clause-tree c = sizes_sum

pub returns-clause-siblings : goal.returns-clause-siblings
returns-clause-siblings c = sizes_of_all_sum

pub returns-clause-lists : goal.returns-clause-lists
returns-clause-lists c = lists_sum
