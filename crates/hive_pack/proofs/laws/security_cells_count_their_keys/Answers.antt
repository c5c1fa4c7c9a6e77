use Rattle.hive_pack.proofs.Uses.{uses_are_counted}
use Rattle.hive_pack.proofs.laws.security_cells_count_their_keys.Goals as goal

pub returns : goal.returns
returns c = uses_are_counted
