-- What cells show in which one key has other children (this project's own).
use Rattle.std.specs.Prelude.{◌≡◌, ◌⊎◌, ℕ, Bool, true, false, List, [], ◌∷◌, ◌++◌, map, flat_map, Result, Ok}
use Rattle.std.specs.Ordering.{is_gt}
use Rattle.nt_bytes.specs.Folding.{folds_same, folded_order}
use Rattle.nt_bytes.specs.declared.fault.HiveFaultKind.{HiveFaultKind}
use Rattle.nt_bytes.specs.Reading.{◌>>=◌}
use Rattle.hive_model.specs.Bins.{Cells}
use Rattle.hive_model.specs.KeyNode.{KeyNode, key_node_at}
use Rattle.hive_model.specs.Security.{security_at}
use Rattle.hive_model.specs.Walk.{reading}
use Rattle.hive_model.specs.Footprint.{child_places, security_cell_at, list_cells_at}
use Rattle.hive_model.specs.Stands.{ListsChildren}
use Rattle.edited_cells.specs.Owned.{security, In, node_name, Reaches, Extends, Owns}
use Rattle.edited_cells.specs.Framed.{IsUnheld}
use Rattle.edited_cells.specs.Parents.{IsChildOf}
use Rattle.edited_cells.specs.Uses.{Once, plain, tree_uses}

-- the descriptor in the security cell at an offset
abbrev pub descriptor_at : Cells → ℕ → Result (List ℕ) HiveFaultKind
descriptor_at cells o = reading security_at cells o >>= λ s. Ok s.descriptor

-- some key of the tree at a root uses the cell as security
pub record IsSecurityCell (cells : Cells) (root o : ℕ) : Type 0 where
  pub path : List (List ℕ)
  pub key : ℕ
  pub reached : Reaches cells root path key
  pub uses : In (security_cell_at cells key) o

-- a node that says the same but of its children: how many they are, where their list is, and the greatest of their names
pub record SaysTheRest (old new : KeyNode) : Type 0 where
  pub name : new.name ≡ old.name
  pub flags : new.flags ≡ old.flags
  pub stamp : new.stamp ≡ old.stamp
  pub parent : new.parent ≡ old.parent
  pub volatile_count : new.volatile_count ≡ old.volatile_count
  pub volatile_list : new.volatile_list ≡ old.volatile_list
  pub value_count : new.value_count ≡ old.value_count
  pub value_list : new.value_list ≡ old.value_list
  pub security : new.security ≡ old.security
  pub class : new.class ≡ old.class
  pub class_length : new.class_length ≡ old.class_length

-- From cells b to cells c the key at an offset gets children (put) in place of others (gone), between those before and after them,
-- where that many levels are left for them: of the cells that are allocated in b none changes but its node, its lists, those of the
-- children that go and of all below these, and cells of security that are counted again, which keep their descriptors. What the lists
-- and the children that come use in c, the lists and the children that go used in b, or it was not allocated there, or is counted again
-- and used as security; and they use each cell once. The children that come name this key as their parent.
pub record ChangesChildren (b c : Cells) (root x left : ℕ) (front gone put back counted : List ℕ) : Type 0 where
  pub version : c.version ≡ b.version
  pub old : KeyNode
  pub new : KeyNode
  pub read : reading key_node_at b x ≡ Ok old
  pub read_new : reading key_node_at c x ≡ Ok new
  pub same : SaysTheRest old new
  pub listed : child_places b x ≡ front ++ (gone ++ back)
  pub listed_new : ListsChildren c new (front ++ (put ++ back))
  pub others : (o : ℕ) (q : List ℕ) → b.payload o ≡ Ok q → (o ≡ x → ⊥) → (In (list_cells_at b x) o → ⊥)
      → ((s : Bool) → In (flat_map (tree_uses left b) gone) (o, s) → ⊥) → (In counted o → ⊥) → c.payload o ≡ Ok q
  pub counted_are : (o : ℕ) → In counted o → IsSecurityCell b root o
  pub security : (o : ℕ) → IsSecurityCell b root o → descriptor_at c o ≡ descriptor_at b o
  pub used : (u : ℕ × Bool) → In (plain (list_cells_at c x) ++ flat_map (tree_uses left c) put) u
      → In (plain (list_cells_at b x) ++ flat_map (tree_uses left b) gone) u ⊎ (IsUnheld b u.0 ⊎ ((u.1 ≡ true) × In counted u.0))
  pub once : Once (plain (list_cells_at c x) ++ flat_map (tree_uses left c) put)
  pub named : (y : ℕ) → In put y → IsChildOf c x y

-- the first of these names, if there is one, folds greater than a name
abbrev pub StandsBefore : List ℕ → List (List ℕ) → Type 0
StandsBefore name [] = Unit {0}
StandsBefore name (m ∷ ms) = is_gt (folded_order m name) ≡ true

-- the place of a new name among keys at these offsets: after those whose names do not fold greater, before the first whose does
pub record HasPlace (b : Cells) (name : List ℕ) (front back : List ℕ) : Type 0 where
  pub small : (m : List ℕ) → In (map (node_name b) front) m → is_gt (folded_order m name) ≡ false
  pub great : StandsBefore name (map (node_name b) back)

-- a key at an offset has this name, and what of security is counted again is its own or of a key below it
pub record Deletes (b : Cells) (root : ℕ) (parent : List (List ℕ)) (name : List ℕ) (y : ℕ) (counted : List ℕ) : Type 0 where
  pub named : folds_same name (node_name b y) ≡ true
  pub count : (o : ℕ) → In counted o → (q : List (List ℕ)) × Extends (parent ++ name ∷ []) q × Owns b root q security o
