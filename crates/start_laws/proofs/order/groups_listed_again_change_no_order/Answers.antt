use Rattle.start_model.specs.Order.{listed_groups, tag_lists}
use Rattle.start_laws.proofs.RepeatLemmas.{before_alike}
use Rattle.start_laws.proofs.order.groups_listed_again_change_no_order.Goals as goal

pub returns : goal.returns
returns c = λ set tags_count p q a b. before_alike (tag_lists set) (listed_groups set) tags_count p q a b
