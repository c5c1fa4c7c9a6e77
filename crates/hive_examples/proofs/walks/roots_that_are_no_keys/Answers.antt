use Rattle.std.proofs.Common.{refl}
use Rattle.hive_model.specs.KeyNode.{key_node_at, key_node_text}
use Rattle.hive_model.specs.Lists.{lf_text}
use Rattle.hive_model.specs.Packed.{filled}
use Rattle.hive_model.specs.Walk.{node_at, key_checks, all_checks}
use Rattle.hive_examples.specs.SmallCells.{family}
use Rattle.hive_examples.proofs.walks.roots_that_are_no_keys.Goals as goal

pub returns-clause-nowhere : goal.returns-clause-nowhere
unfolding family filled key_node_text lf_text key_checks all_checks
returns-clause-nowhere c = λ version. refl

pub returns-clause-list : goal.returns-clause-list
unfolding family filled key_node_text lf_text node_at key_node_at key_checks all_checks
returns-clause-list c = λ version. refl
