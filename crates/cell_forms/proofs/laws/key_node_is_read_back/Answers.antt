use Rattle.hive_model.proofs.Spelling.{key_node_again}
use Rattle.cell_forms.proofs.laws.key_node_is_read_back.Goals as goal

pub returns : goal.returns
returns c = key_node_again
