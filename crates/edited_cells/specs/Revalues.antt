-- What cells show in which one key has other values (this project's own).
use Rattle.std.specs.Prelude.{◌≡◌, ◌⊎◌, ℕ, ◌==◌, MatchBool, List, [], ◌++◌, flat_map, Ok}
use Rattle.hive_model.specs.Bins.{Cells}
use Rattle.hive_model.specs.Tree.{Item}
use Rattle.hive_model.specs.KeyNode.{KeyNode, key_node_at}
use Rattle.hive_model.specs.Lists.{offsets_in}
use Rattle.hive_model.specs.Walk.{reading, value_checks}
use Rattle.hive_model.specs.Footprint.{used_in}
use Rattle.hive_model.specs.Stands.{items_at}
use Rattle.edited_cells.specs.Owned.{In, value_list_at, value_places}
use Rattle.edited_cells.specs.Framed.{IsUnheld}
use Rattle.edited_cells.specs.Pairs.{Pairwise}

-- the cells of the values at these offsets, each with those of its data
abbrev pub cells_of_values : Cells → List ℕ → List ℕ
cells_of_values cells offsets = flat_map (λ v. used_in (value_checks cells [] v)) offsets

-- a key's value list, and the cells of its values
abbrev pub all_value_cells : Cells → ℕ → List ℕ
all_value_cells cells at = value_list_at cells at ++ cells_of_values cells (value_places cells at)

-- a node that says the same but of its values: how many they are, where their list is, and the greatest of their names and sizes
pub record SaysTheSame (old new : KeyNode) : Type 0 where
  pub name : new.name ≡ old.name
  pub flags : new.flags ≡ old.flags
  pub stamp : new.stamp ≡ old.stamp
  pub parent : new.parent ≡ old.parent
  pub child_count : new.child_count ≡ old.child_count
  pub volatile_count : new.volatile_count ≡ old.volatile_count
  pub child_list : new.child_list ≡ old.child_list
  pub volatile_list : new.volatile_list ≡ old.volatile_list
  pub security : new.security ≡ old.security
  pub class : new.class ≡ old.class
  pub class_length : new.class_length ≡ old.class_length

-- a key's values are at these offsets; where its node counts none, its list is not looked at
abbrev pub ListsValues : Cells → KeyNode → List ℕ → Type 0
ListsValues cells node offsets =
    MatchBool (node.value_count == 0) (offsets ≡ []) (reading (offsets_in node.value_count) cells node.value_list ≡ Ok offsets)

-- From cells b to cells c the key at an offset gets values (put) in place of others (gone), between those before and after them: of
-- the cells that are allocated in b none changes but its node, its value list and those of the values that go. What the list and the
-- values that come use in c, the list and the values that go used in b, or it was not allocated there, and they use no cell twice.
pub record ChangesValues (b c : Cells) (x : ℕ) (front gone put back : List ℕ) (come : List Item) : Type 0 where
  pub version : c.version ≡ b.version
  pub old : KeyNode
  pub new : KeyNode
  pub read : reading key_node_at b x ≡ Ok old
  pub read_new : reading key_node_at c x ≡ Ok new
  pub same : SaysTheSame old new
  pub listed : value_places b x ≡ front ++ (gone ++ back)
  pub listed_new : ListsValues c new (front ++ (put ++ back))
  pub items : items_at c put ≡ Ok come
  pub others : (o : ℕ) (q : List ℕ) → b.payload o ≡ Ok q → (o ≡ x → ⊥) → (In (value_list_at b x) o → ⊥)
      → (In (cells_of_values b gone) o → ⊥) → c.payload o ≡ Ok q
  pub used : (o : ℕ) → In (value_list_at c x ++ cells_of_values c put) o
      → In (value_list_at b x ++ cells_of_values b gone) o ⊎ IsUnheld b o
  pub once : Pairwise (λ p q. p ≡ q → ⊥) (value_list_at c x ++ cells_of_values c put)
