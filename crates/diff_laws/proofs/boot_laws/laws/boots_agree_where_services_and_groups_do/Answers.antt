use Rattle.diff_laws.proofs.FollowLemmas.{boots_follow, no_line_follows, same_follows}
use Rattle.diff_laws.proofs.boot_laws.laws.boots_agree_where_services_and_groups_do.Goals as goal

pub returns-clause-agree : goal.returns-clause-agree
returns-clause-agree c = boots_follow

pub returns-clause-lines : goal.returns-clause-lines
returns-clause-lines c = no_line_follows

pub returns-clause-same : goal.returns-clause-same
returns-clause-same c = same_follows
