use Rattle.diff_laws.proofs.OwnLines.{own_services, own_groups}
use Rattle.diff_laws.proofs.OwnTrees.{own_tree}
use Rattle.diff_laws.proofs.diff_laws.laws.a_set_is_like_itself.Goals as goal

pub returns-clause-services : goal.returns-clause-services
returns-clause-services c = own_services

pub returns-clause-groups : goal.returns-clause-groups
returns-clause-groups c = own_groups

pub returns-clause-tree : goal.returns-clause-tree
returns-clause-tree c = own_tree
