use Rattle.hive_model.proofs.Spelling.{bytes_again}
use Rattle.cell_forms.proofs.laws.bytes_are_read_back.Goals as goal

pub returns : goal.returns
returns c = bytes_again
