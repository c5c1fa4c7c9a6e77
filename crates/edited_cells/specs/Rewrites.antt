-- What cells show in which one key is rewritten (this project's own).
use Rattle.std.specs.Prelude.{◌≡◌, ◌⊎◌, ◌<◌, ◌≤◌, ℕ, Bool, true, false, List, length, Some, Ok}
use Rattle.hive_model.specs.Bins.{Cells}
use Rattle.hive_model.specs.Tree.{Tree, find_key}
use Rattle.hive_model.specs.Edit.{at_key}
use Rattle.hive_model.specs.Valid.{levels}
use Rattle.hive_model.specs.Stands.{Stands, HasApartNames}
use Rattle.edited_cells.specs.Owned.{Role, node, class, security, value_list, value, lists, In, node_name, Owns}
use Rattle.edited_cells.specs.Framed.{IsUnheld}
use Rattle.edited_cells.specs.Parents.{KeepsParent, NamesParents}
use Rattle.edited_cells.specs.Uses.{Once, tree_uses}
use Rattle.edited_cells.specs.Relists.{IsSecurityCell, descriptor_at}
use Rattle.edited_cells.specs.Woven.{Woven}

-- is a cell in this role used as security?
abbrev pub is_secure : Role → Bool
is_secure node = false
is_secure class = false
is_secure security = true
is_secure value_list = false
is_secure (value name) = false
is_secure lists = false

-- From cells b to cells c the key at x is rewritten, and this tree stands there then, under the name that stood there. Of what it and
-- the keys below it used, some is kept, and some (old) gave way to something new, that was old or was in no cell, or is security that is
-- counted again; new is used once. Of the cells that are allocated in b none changes but its node, the old ones, and cells of security
-- that are counted again, which keep their descriptors. The key's node names the parent that it named, and the keys below it name
-- theirs where they did.
pub record RewritesKey (b c : Cells) (root x left : ℕ) (k : Tree) (old new : List (ℕ × Bool)) (counted : List ℕ) : Type 0 where
  pub kept : List (ℕ × Bool)
  pub version : c.version ≡ b.version
  pub was : Woven (tree_uses left b x) old kept
  pub is : Woven (tree_uses left c x) new kept
  pub others : (o : ℕ) (q : List ℕ) → b.payload o ≡ Ok q → (o ≡ x → ⊥) → ((s : Bool) → In old (o, s) → ⊥) → (In counted o → ⊥)
      → c.payload o ≡ Ok q
  pub counted_are : (o : ℕ) → In counted o → IsSecurityCell b root o
  pub security_same : (o : ℕ) → IsSecurityCell b root o → descriptor_at c o ≡ descriptor_at b o
  pub used : (u : ℕ × Bool) → In new u → In old u ⊎ (IsUnheld b u.0 ⊎ ((u.1 ≡ true) × In counted u.0))
  pub once : Once new
  pub owned : (q : List (List ℕ)) (r : Role) (o : ℕ) → length q < left → Owns c x q r o → Owns b x q r o ⊎ In new (o, is_secure r)
  pub name : node_name c x ≡ node_name b x
  pub parent : KeepsParent b c x
  pub parents : NamesParents b x → NamesParents c x
  pub stands : Stands c x k
  pub names : HasApartNames k
  pub low : levels k ≤ left

-- the key that is found at the path changes to the one that is rewritten
pub record ChangesTo (b : Cells) (x : ℕ) (path : List (List ℕ)) (t u k : Tree) (change : Tree → Tree) : Type 0 where
  pub was : Tree
  pub found : find_key path t ≡ Some was
  pub stood : Stands b x was
  pub becomes : change was ≡ k
  pub result : at_key path change t ≡ u

-- the key at the end of a path is rewritten so that the one tree becomes the other
pub record IsRewritten (b c : Cells) (root : ℕ) (t u : Tree) (path : List (List ℕ)) (x left : ℕ) (old : List (ℕ × Bool))
    (counted : List ℕ) : Type 0 where
  pub key : Tree
  pub new : List (ℕ × Bool)
  pub change : Tree → Tree
  pub rewrites : RewritesKey b c root x left key old new counted
  pub changes : ChangesTo b x path t u key change
