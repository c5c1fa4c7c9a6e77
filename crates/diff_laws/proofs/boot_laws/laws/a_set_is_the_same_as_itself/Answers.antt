use Rattle.diff_laws.proofs.FollowLemmas.{own_boot, own_answer}
use Rattle.diff_laws.proofs.boot_laws.laws.a_set_is_the_same_as_itself.Goals as goal

pub returns-clause-boot : goal.returns-clause-boot
returns-clause-boot c = own_boot

pub returns-clause-answer : goal.returns-clause-answer
returns-clause-answer c = own_answer
