-- What differs between a control set and itself? (this project's own)
use Rattle.std.specs.Prelude.{◌≡◌, []}
use Rattle.hive_model.specs.Tree.{Tree}
use Rattle.hive_model.specs.Valid.{HoldsKeys}
use Rattle.set_diff.specs.Services.{services_in, services_lines}
use Rattle.set_diff.specs.Sets.{compared_of, groups_lines}
use Rattle.tree_diff.specs.Trees.{trees_lines}

abbrev pub OwnServices : Type 0
OwnServices = (set : Tree) → HoldsKeys set → services_lines (services_in set) (services_in set) ≡ []

abbrev pub OwnGroups : Type 0
OwnGroups = (set : Tree) → groups_lines (compared_of set) (compared_of set) ≡ []

abbrev pub OwnTree : Type 0
OwnTree = (set : Tree) → HoldsKeys set → trees_lines set set ≡ []
