-- How the lists of one key change, by the cells that were patched, written or freed (this project's own).
use Rattle.std.specs.Prelude.{◌≡◌, ◌⊎◌, ℕ, Bool, true, List, ◌∷◌, ◌++◌, length, Ok}
use Rattle.hive_model.specs.Bins.{Cells}
use Rattle.hive_model.specs.KeyNode.{KeyNode, key_node_at}
use Rattle.hive_model.specs.Walk.{entries_at, entries_checks}
use Rattle.hive_model.specs.Footprint.{used_in, list_cells_at}
use Rattle.edited_cells.specs.Owned.{In}
use Rattle.edited_cells.specs.Framed.{IsUnheld}
use Rattle.edited_cells.specs.Parents.{IsChildOf}
use Rattle.edited_cells.specs.Uses.{Once, plain, tree_uses}
use Rattle.edited_cells.specs.Relists.{descriptor_at, IsSecurityCell, SaysTheRest}

-- a payload reads as a node that has that many children and their list here, and says the same as another of all but its children
pub record HasNewChildren (q : List ℕ) (n : KeyNode) (count list : ℕ) : Type 0 where
  pub new : KeyNode
  pub read : key_node_at q ≡ Ok new
  pub same : SaysTheRest n new
  pub count_is : new.child_count ≡ count
  pub list_is : new.child_list ≡ list

-- A key is at an offset, and the node at x counts it and names new lists, with it between these: lists and key are in cells that
-- were none, but for cells of security that are counted again, and the old lists may be gone. The key names x as its parent.
pub record InsertsChild (b c : Cells) (root x left : ℕ) (n : KeyNode) (front back : List ℕ) (y : ℕ) (q : List ℕ) (list : ℕ) (counted : List ℕ) : Type 0 where
  pub version : c.version ≡ b.version
  pub there : c.payload x ≡ Ok q
  pub node : HasNewChildren q n (length (front ++ y ∷ back)) list
  pub lists : entries_at c list ≡ Ok (front ++ y ∷ back)
  pub others : (o : ℕ) (r : List ℕ) → b.payload o ≡ Ok r → (o ≡ x → ⊥) → (In (list_cells_at b x) o → ⊥) → (In counted o → ⊥) → c.payload o ≡ Ok r
  pub counted_are : (o : ℕ) → In counted o → IsSecurityCell b root o
  pub security : (o : ℕ) → IsSecurityCell b root o → descriptor_at c o ≡ descriptor_at b o
  pub fresh : (u : ℕ × Bool) → In (plain (used_in (entries_checks c list)) ++ tree_uses left c y) u
      → IsUnheld b u.0 ⊎ ((u.1 ≡ true) × In counted u.0)
  pub once : Once (plain (used_in (entries_checks c list)) ++ tree_uses left c y)
  pub named : IsChildOf c x y

-- The key at an offset is no more counted by the node at x, and the others are in new lists, in cells that were none; without
-- others there is no list. The cells of the key and of all below it may be gone, but those of security, and so may the old lists.
pub record RemovesChild (b c : Cells) (root x left : ℕ) (n : KeyNode) (front back : List ℕ) (y : ℕ) (q : List ℕ) (list : ℕ) (counted : List ℕ) : Type 0 where
  pub version : c.version ≡ b.version
  pub there : c.payload x ≡ Ok q
  pub node : HasNewChildren q n (length (front ++ back)) list
  pub lists : (w : ℕ) (os : List ℕ) → front ++ back ≡ w ∷ os → entries_at c list ≡ Ok (front ++ back)
  pub others : (o : ℕ) (r : List ℕ) → b.payload o ≡ Ok r → (o ≡ x → ⊥) → (In (list_cells_at b x) o → ⊥)
      → ((s : Bool) → In (tree_uses left b y) (o, s) → ⊥) → (In counted o → ⊥) → c.payload o ≡ Ok r
  pub counted_are : (o : ℕ) → In counted o → IsSecurityCell b root o
  pub security : (o : ℕ) → IsSecurityCell b root o → descriptor_at c o ≡ descriptor_at b o
  pub fresh : (w : ℕ) (os : List ℕ) → front ++ back ≡ w ∷ os → (u : ℕ × Bool) → In (plain (used_in (entries_checks c list))) u → IsUnheld b u.0
  pub once : (w : ℕ) (os : List ℕ) → front ++ back ≡ w ∷ os → Once (plain (used_in (entries_checks c list)))
