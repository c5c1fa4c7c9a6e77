-- What would the orders of a set be if a group had each of its places in the list?
use Rattle.std.specs.Prelude.{List, map}
use Rattle.hive_model.specs.Tree.{Tree}
use Rattle.start_model.specs.Order.{GroupOrder, order_of, listed_groups, tag_lists}

-- each listed group with its tags, as often as it is listed
abbrev pub orders_with_repeats : Tree → List GroupOrder
orders_with_repeats set = map (order_of (tag_lists set)) (listed_groups set)
