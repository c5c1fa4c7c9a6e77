use Rattle.hive_model.proofs.BaseLemmas.{base_back}
use Rattle.regf_base.proofs.spelling.what_is_spelled_is_read_back.Goals as goal

pub returns : goal.returns
returns c = base_back
