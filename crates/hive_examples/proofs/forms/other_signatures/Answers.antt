use Rattle.std.proofs.Common.{refl}
use Rattle.hive_model.specs.KeyNode.{key_node_at}
use Rattle.hive_model.specs.KeyValue.{key_value_at}
use Rattle.hive_model.specs.BigData.{big_data_at}
use Rattle.hive_model.specs.Security.{security_at}
use Rattle.hive_model.specs.Lists.{list_at}
use Rattle.hive_examples.proofs.forms.other_signatures.Goals as goal

pub returns-clause-node : goal.returns-clause-node
unfolding key_node_at
returns-clause-node c = refl

pub returns-clause-value : goal.returns-clause-value
unfolding key_value_at
returns-clause-value c = refl

pub returns-clause-security : goal.returns-clause-security
unfolding security_at
returns-clause-security c = refl

pub returns-clause-list : goal.returns-clause-list
unfolding list_at
returns-clause-list c = refl

pub returns-clause-big_data : goal.returns-clause-big_data
unfolding big_data_at
returns-clause-big_data c = refl
