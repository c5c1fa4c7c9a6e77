use Rattle.hive_model.proofs.Spelling.{security_again}
use Rattle.cell_forms.proofs.laws.security_is_read_back.Goals as goal

pub returns : goal.returns
returns c = security_again
