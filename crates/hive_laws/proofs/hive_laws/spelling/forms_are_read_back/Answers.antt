use Rattle.hive_model.proofs.Spelling.{key_node_again, key_value_again, big_data_again, security_again, offsets_again, bytes_again}
use Rattle.hive_laws.proofs.hive_laws.spelling.forms_are_read_back.Goals as goal

pub returns-clause-node : goal.returns-clause-node
returns-clause-node c = key_node_again

pub returns-clause-value : goal.returns-clause-value
returns-clause-value c = key_value_again

pub returns-clause-security : goal.returns-clause-security
returns-clause-security c = security_again

pub returns-clause-values : goal.returns-clause-values
returns-clause-values c = offsets_again

pub returns-clause-bytes : goal.returns-clause-bytes
returns-clause-bytes c = bytes_again

pub returns-clause-big_data : goal.returns-clause-big_data
returns-clause-big_data c = big_data_again
