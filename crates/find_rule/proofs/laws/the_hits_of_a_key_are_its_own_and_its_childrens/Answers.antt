use Rattle.find_rule.proofs.FoundLemmas.{child_alone}
use Rattle.find_rule.proofs.NarrowLemmas.{own_then_each}
use Rattle.find_rule.proofs.laws.the_hits_of_a_key_are_its_own_and_its_childrens.Goals as goal

pub returns-clause-child : goal.returns-clause-child
returns-clause-child c = child_alone

pub returns-clause-parted : goal.returns-clause-parted
returns-clause-parted c = own_then_each
