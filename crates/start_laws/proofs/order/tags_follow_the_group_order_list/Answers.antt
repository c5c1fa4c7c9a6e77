use Rattle.std.proofs.Common.{refl}
use Rattle.start_laws.specs.Written.{report}
use Rattle.start_laws.proofs.order.tags_follow_the_group_order_list.Goals as goal

pub returns : goal.returns
unfolding report
returns c = refl
