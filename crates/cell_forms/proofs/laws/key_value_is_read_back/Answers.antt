use Rattle.hive_model.proofs.Spelling.{key_value_again}
use Rattle.cell_forms.proofs.laws.key_value_is_read_back.Goals as goal

pub returns : goal.returns
returns c = key_value_again
