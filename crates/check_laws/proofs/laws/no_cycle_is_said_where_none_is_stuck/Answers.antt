use Rattle.check_laws.proofs.CycleLaws.{cycle_where_stuck}
use Rattle.check_laws.proofs.laws.no_cycle_is_said_where_none_is_stuck.Goals as goal

pub returns : goal.returns
returns c = record { cycles = cycle_where_stuck }
