use Rattle.hive_model.proofs.BaseLemmas.{base_back}
use Rattle.hive_laws.proofs.hive_laws.spelling.a_base_block_is_read_back.Goals as goal

pub returns : goal.returns
returns c = base_back
