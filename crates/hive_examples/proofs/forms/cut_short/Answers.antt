use Rattle.std.proofs.Common.{refl}
use Rattle.hive_model.specs.StoredNames.{key_name_at}
use Rattle.hive_model.specs.KeyNode.{key_node_at, key_node_text}
use Rattle.hive_model.specs.KeyValue.{key_value_at, key_value_text}
use Rattle.hive_model.specs.BigData.{big_data_at, big_data_text}
use Rattle.hive_model.specs.Security.{security_at, security_text}
use Rattle.hive_examples.proofs.forms.cut_short.Goals as goal

pub returns-clause-no_sign : goal.returns-clause-no_sign
unfolding key_node_at
returns-clause-no_sign c = refl

pub returns-clause-node : goal.returns-clause-node
unfolding key_node_at key_node_text
returns-clause-node c = refl

pub returns-clause-name : goal.returns-clause-name
unfolding key_node_at key_node_text
returns-clause-name c = refl

pub returns-clause-whole : goal.returns-clause-whole
unfolding key_node_at key_node_text key_name_at
returns-clause-whole c = refl

pub returns-clause-value : goal.returns-clause-value
unfolding key_value_at key_value_text
returns-clause-value c = refl

pub returns-clause-descriptor : goal.returns-clause-descriptor
unfolding security_at security_text
returns-clause-descriptor c = refl

pub returns-clause-big_data : goal.returns-clause-big_data
unfolding big_data_at big_data_text
returns-clause-big_data c = refl
