use Rattle.safe_boot.proofs.LateLemmas.{first_in_front, late_is_listed}
use Rattle.safe_boot.proofs.laws.what_starts_late_is_listed.Goals as goal

pub returns-clause-front : goal.returns-clause-front
returns-clause-front c = first_in_front

pub returns-clause-listed : goal.returns-clause-listed
returns-clause-listed c = late_is_listed
