-- How the cells of one value change, by the cells that were patched, written or freed (this project's own).
use Rattle.std.specs.Prelude.{◌≡◌, ◌⊎◌, ℕ, suc, List, [], ◌∷◌, ◌++◌, length, Ok}
use Rattle.hive_model.specs.Bins.{Cells}
use Rattle.hive_model.specs.Tree.{Item}
use Rattle.hive_model.specs.KeyNode.{KeyNode}
use Rattle.hive_model.specs.Lists.{offsets_in}
use Rattle.hive_model.specs.Walk.{reading, value_checks}
use Rattle.hive_model.specs.Footprint.{used_in}
use Rattle.hive_model.specs.Stands.{item_at}
use Rattle.edited_cells.specs.Owned.{In, value_name, value_list_at}
use Rattle.edited_cells.specs.Framed.{IsUnheld}
use Rattle.edited_cells.specs.Pairs.{Pairwise}
use Rattle.edited_cells.specs.Written.{HasNewValues}
use Rattle.edited_cells.specs.Done.{item}

-- The value at an offset stays there and gets a type and data: no other cell that is allocated changes than those of the value, and
-- what it uses then it used before, or was not allocated.
pub record GetsData (b c : Cells) (v kind : ℕ) (bytes : List ℕ) : Type 0 where
  pub version : c.version ≡ b.version
  pub reads : item_at c v ≡ Ok (item (value_name b v) kind bytes)
  pub others : (o : ℕ) (q : List ℕ) → b.payload o ≡ Ok q → (In (used_in (value_checks b [] v)) o → ⊥) → c.payload o ≡ Ok q
  pub used : (o : ℕ) → In (used_in (value_checks c [] v)) o → In (used_in (value_checks b [] v)) o ⊎ IsUnheld b o
  pub once : Pairwise (λ p q. p ≡ q → ⊥) (used_in (value_checks c [] v))

-- The value at an offset moves to another, where it has a type and data, and the list of its key is the same cell and names it there.
pub record MovesValue (b c : Cells) (x : ℕ) (n : KeyNode) (front back : List ℕ) (v w kind : ℕ) (bytes : List ℕ) : Type 0 where
  pub version : c.version ≡ b.version
  pub lists : reading (offsets_in n.value_count) c n.value_list ≡ Ok (front ++ w ∷ back)
  pub reads : item_at c w ≡ Ok (item (value_name b v) kind bytes)
  pub others : (o : ℕ) (q : List ℕ) → b.payload o ≡ Ok q → (In (value_list_at b x) o → ⊥) → (In (used_in (value_checks b [] v)) o → ⊥)
      → c.payload o ≡ Ok q
  pub used : (o : ℕ) → In (used_in (value_checks c [] w)) o → In (used_in (value_checks b [] v)) o ⊎ IsUnheld b o
  pub once : Pairwise (λ p q. p ≡ q → ⊥) (used_in (value_checks c [] w))

-- A value is at an offset, and the node at x counts it and names a new list, with it after these: list and value are in cells
-- that were none, and the old list may be gone.
pub record AddsValue (b c : Cells) (x : ℕ) (n : KeyNode) (offsets : List ℕ) (w : ℕ) (q : List ℕ) (list : ℕ) (i : Item) : Type 0 where
  pub version : c.version ≡ b.version
  pub there : c.payload x ≡ Ok q
  pub node : HasNewValues q n (suc (length offsets)) list
  pub lists : reading (offsets_in (suc (length offsets))) c list ≡ Ok (offsets ++ w ∷ [])
  pub reads : item_at c w ≡ Ok i
  pub others : (o : ℕ) (r : List ℕ) → b.payload o ≡ Ok r → (o ≡ x → ⊥) → (In (value_list_at b x) o → ⊥) → c.payload o ≡ Ok r
  pub fresh : (o : ℕ) → In (list ∷ used_in (value_checks c [] w)) o → IsUnheld b o
  pub once : Pairwise (λ p q. p ≡ q → ⊥) (list ∷ used_in (value_checks c [] w))

-- The value at an offset is no more counted by the node at x, and the list names the others, in the cell of the old list or a new one;
-- with no other value there is no list. The cells of the value and of the old list may be gone.
pub record TakesValue (b c : Cells) (x : ℕ) (n : KeyNode) (front back : List ℕ) (v : ℕ) (q : List ℕ) (list : ℕ) : Type 0 where
  pub version : c.version ≡ b.version
  pub there : c.payload x ≡ Ok q
  pub node : HasNewValues q n (length (front ++ back)) list
  pub lists : (w : ℕ) (os : List ℕ) → front ++ back ≡ w ∷ os → reading (offsets_in (length (front ++ back))) c list ≡ Ok (front ++ back)
  pub from : (front ++ back ≡ [] → ⊥) → In (value_list_at b x) list ⊎ IsUnheld b list
  pub others : (o : ℕ) (r : List ℕ) → b.payload o ≡ Ok r → (o ≡ x → ⊥) → (In (value_list_at b x) o → ⊥)
      → (In (used_in (value_checks b [] v)) o → ⊥) → c.payload o ≡ Ok r
