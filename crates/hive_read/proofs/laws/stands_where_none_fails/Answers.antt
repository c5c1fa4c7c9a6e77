use Rattle.hive_read.proofs.Standing.{stands-where-none-fails}
use Rattle.hive_read.proofs.laws.stands_where_none_fails.Goals as goal

pub returns : goal.returns
returns c = stands-where-none-fails
