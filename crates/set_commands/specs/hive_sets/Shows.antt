-- When can a tree stand for a hive's tree where its sets are judged? (this project's own)
use Rattle.std.specs.Prelude.{◌≡◌, ℕ, List, Option, Some, None}
use Rattle.std.specs.List.{Contains}
use Rattle.std.specs.Option.{is_some}
use Rattle.hive_model.specs.Tree.{Tree}
use Rattle.hive_model.specs.Valid.{HoldsKeys}
use Rattle.hive_model.specs.Edit.{has_child}
use Rattle.start_model.specs.Order.{tag_lists}
use Rattle.start_model.specs.Sets.{select_numbers_of}
use Rattle.select_keys.specs.Sets.{usable_set}
use Rattle.set_commands.specs.hive_sets.Parts.{group_list, service_list}

-- a set and what stands for it have the same services, the same order of groups and the same tags
pub record ShowsSet (set part : Tree) : Type 0 where
  pub services : service_list part ≡ service_list set
  pub groups : group_list part ≡ group_list set
  pub tags : tag_lists part ≡ tag_lists set

-- the same where there may be no set
abbrev pub ShowsFound : Option Tree → Option Tree → Type 0
ShowsFound (Some set) (Some part) = ShowsSet set part
ShowsFound (Some set) None = ⊥
ShowsFound None (Some part) = ⊥
ShowsFound None None = Unit {0}

-- the part can be held; it has the numbers of Select, a child of each name that has one, and the sets of these numbers
pub record ShowsHive (numbers : List ℕ) (tree part : Tree) : Type 0 where
  pub holds : HoldsKeys part
  pub select : select_numbers_of part ≡ select_numbers_of tree
  pub named : (name : List ℕ) → has_child name part ≡ has_child name tree
  pub usable : (n : ℕ) → is_some (usable_set part n) ≡ is_some (usable_set tree n)
  pub sets : (n : ℕ) → Contains numbers n → ShowsFound (usable_set tree n) (usable_set part n)
