use Rattle.salvage_laws.proofs.LeavingKeys.{salvage-is, salvage-apart}
use Rattle.salvage_laws.proofs.walk.what_is_salvaged_stands_and_the_rest_has_a_line.Goals as goal

pub returns-clause-left : goal.returns-clause-left
returns-clause-left c = salvage-is

pub returns-clause-apart : goal.returns-clause-apart
returns-clause-apart c = salvage-apart
