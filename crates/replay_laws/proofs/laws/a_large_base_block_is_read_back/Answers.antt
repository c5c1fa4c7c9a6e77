use Rattle.replay_laws.proofs.Bases.{wide_back}
use Rattle.replay_laws.proofs.laws.a_large_base_block_is_read_back.Goals as goal

pub returns : goal.returns
returns c = wide_back
