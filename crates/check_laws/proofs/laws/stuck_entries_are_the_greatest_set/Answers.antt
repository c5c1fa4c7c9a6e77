use Rattle.check_laws.proofs.ProperLaws.{good_proper}
use Rattle.check_laws.proofs.StuckLaws.{stuck_holds, stuck_greatest}
use Rattle.check_laws.proofs.laws.stuck_entries_are_the_greatest_set.Goals as goal

pub returns-clause-holds : goal.returns-clause-holds
returns-clause-holds c = stuck_holds

pub returns-clause-greatest : goal.returns-clause-greatest
returns-clause-greatest c = stuck_greatest

pub returns-clause-proper : goal.returns-clause-proper
returns-clause-proper c = good_proper
