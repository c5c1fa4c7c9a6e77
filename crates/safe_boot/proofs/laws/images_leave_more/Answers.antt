use Rattle.std.proofs.Common.{refl}
use Rattle.safe_boot.proofs.MoreLemmas.{images_leave_more}
use Rattle.safe_boot.proofs.laws.images_leave_more.Goals as goal

pub returns-clause-more : goal.returns-clause-more
returns-clause-more c = images_leave_more

pub returns-clause-needs : goal.returns-clause-needs
returns-clause-needs c = λ set. refl
