use Rattle.hive_model.proofs.Spelling.{big_data_again}
use Rattle.cell_forms.proofs.laws.big_data_is_read_back.Goals as goal

pub returns : goal.returns
returns c = big_data_again
