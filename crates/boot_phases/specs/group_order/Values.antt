-- Which values does a key have that may be absent?
use Rattle.std.specs.Prelude.{List, [], Option}
use Rattle.std.specs.Option.{option_map_or}
use Rattle.hive_model.specs.Tree.{Item, Tree, head}

-- the values of the key in order, and none without it
abbrev pub values_in : Option Tree → List Item
values_in key = option_map_or (λ t. (head t).values) key []
