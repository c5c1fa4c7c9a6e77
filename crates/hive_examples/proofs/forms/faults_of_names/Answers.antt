use Rattle.std.proofs.Common.{refl}
use Rattle.hive_model.specs.StoredNames.{key_name_at, value_name_at}
use Rattle.hive_model.specs.KeyNode.{key_node_at, key_node_text}
use Rattle.hive_model.specs.KeyValue.{key_value_at, key_value_text}
use Rattle.hive_model.specs.Walk.{node_at}
use Rattle.hive_examples.proofs.forms.faults_of_names.Goals as goal

pub returns-clause-half_unit : goal.returns-clause-half_unit
unfolding key_node_at key_node_text key_name_at
returns-clause-half_unit c = refl

pub returns-clause-backslash : goal.returns-clause-backslash
unfolding key_node_at key_node_text key_name_at
returns-clause-backslash c = refl

pub returns-clause-longest : goal.returns-clause-longest
unfolding key_node_at key_node_text key_name_at
returns-clause-longest c = refl

pub returns-clause-longer : goal.returns-clause-longer
unfolding key_node_at key_node_text key_name_at
returns-clause-longer c = refl

pub returns-clause-longer_value : goal.returns-clause-longer_value
unfolding key_value_at key_value_text value_name_at
returns-clause-longer_value c = refl

pub returns-clause-root : goal.returns-clause-root
unfolding node_at key_node_at key_node_text key_name_at
returns-clause-root c = refl

pub returns-clause-below_root : goal.returns-clause-below_root
unfolding node_at key_node_at key_node_text key_name_at
returns-clause-below_root c = refl
