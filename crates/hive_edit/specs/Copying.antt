-- What is shared where a child of the root is copied, and what remains? (This project's own.)
use Rattle.std.specs.Prelude.{◌≡◌, ◌<◌, ◌^◌, ℕ, List, [], ◌∷◌, find, Some}
use Rattle.hive_model.specs.Tree.{Tree, head, children, is_named}
use Rattle.hive_model.specs.Footprint.{of_key, security_cell_at}
use Rattle.edited_cells.specs.Owned.{In, Extends, Owns, security}
use Rattle.hive_edit.specs.Children.{IsGraftedIn, security_listed}
use Rattle.hive_edit.specs.Grafted.{SharesAt}
use Rattle.hive_edit.specs.Hive.{HiveCells, cells_in}

-- the security of the child of a name is at an offset, or that names nothing
pub record SharesChild (h : HiveCells) (from : List ℕ) (at : ℕ) : Type 0 where
  pub small : at < 2 ^ 32
  pub each : (k : Tree) → find (is_named from) (children h.tree) ≡ Some k → SharesAt (cells_in h) h.root at (head k).security
  pub owned : (o : ℕ) → In (security_listed at) o → (q : List (List ℕ)) × Extends (from ∷ []) q × Owns (cells_in h) h.root q security o
  pub same : security_listed at ≡ of_key (cells_in h) h.root (from ∷ []) (security_cell_at (cells_in h))

-- the child of a name has the descriptor of this key
pub record HasSecurityOf (h : HiveCells) (from : List ℕ) (k : Tree) : Type 0 where
  pub child : Tree
  pub found : find (is_named from) (children h.tree) ≡ Some child
  pub same : (head k).security ≡ (head child).security

-- the key is the root's child, and shares the descriptor of the child of a name, which it has too
pub record IsCopiedIn (old : HiveCells) (from : List ℕ) (k : Tree) (new : HiveCells) : Type 0 where
  pub place : ℕ
  pub grafted : IsGraftedIn old place (head k).security k new
  pub counts : (o : ℕ) → In (security_listed place) o → (q : List (List ℕ)) × Extends (from ∷ []) q × Owns (cells_in old) old.root q security o
  pub same : security_listed place ≡ of_key (cells_in old) old.root (from ∷ []) (security_cell_at (cells_in old))
