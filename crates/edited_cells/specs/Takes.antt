-- How a key goes from cells, step by step (this project's own).
use Rattle.std.specs.Prelude.{◌≡◌, ◌<◌, ◌^◌, ℕ, Bool, true, List, ◌∷◌, ◌++◌, length, Ok}
use Rattle.hive_model.specs.Bins.{Cells}
use Rattle.hive_model.specs.KeyNode.{KeyNode, key_node_at}
use Rattle.hive_model.specs.Walk.{reading, entries_at, entries_checks}
use Rattle.hive_model.specs.Footprint.{used_in, child_places, list_cells_at}
use Rattle.edited_cells.specs.Owned.{In}
use Rattle.edited_cells.specs.Framed.{IsUnheld}
use Rattle.edited_cells.specs.Pairs.{Pairwise}
use Rattle.edited_cells.specs.Uses.{tree_uses}
use Rattle.edited_cells.specs.Written.{with_part, three_numbers}
use Rattle.edited_cells.specs.Relists.{descriptor_at}

-- From cells b the key at x gets lists of its children without the one at y, in cells that were none, where any is left, and its old
-- lists may go (l). Then its node counts the others and names these lists, and of what the child and the keys below it use all may go
-- but cells of security, which keep their descriptors (c).
pub record TakesChild (b l c : Cells) (x left : ℕ) (n : KeyNode) (front back : List ℕ) (y list : ℕ) : Type 0 where
  pub version : c.version ≡ b.version
  pub read : reading key_node_at b x ≡ Ok n
  pub places : child_places b x ≡ front ++ y ∷ back
  pub relisted : (o : ℕ) (q : List ℕ) → b.payload o ≡ Ok q → (In (list_cells_at b x) o → ⊥) → l.payload o ≡ Ok q
  pub lists : (w : ℕ) (os : List ℕ) → front ++ back ≡ w ∷ os → entries_at l list ≡ Ok (front ++ back)
  pub fresh : (w : ℕ) (os : List ℕ) → front ++ back ≡ w ∷ os → (o : ℕ) → In (used_in (entries_checks l list)) o → IsUnheld b o
  pub once : (w : ℕ) (os : List ℕ) → front ++ back ≡ w ∷ os → Pairwise (λ p q. p ≡ q → ⊥) (used_in (entries_checks l list))
  pub few : length (front ++ back) < 2 ^ 32
  pub small : list < 2 ^ 32
  pub volatile : n.volatile_count < 2 ^ 32
  pub noted : (q : List ℕ) → l.payload x ≡ Ok q → c.payload x ≡ Ok (with_part 20 (three_numbers (length (front ++ back)) n.volatile_count list) q)
  pub others : (o : ℕ) (q : List ℕ) → l.payload o ≡ Ok q → (o ≡ x → ⊥) → ((s : Bool) → In (tree_uses left b y) (o, s) → ⊥) → c.payload o ≡ Ok q
  pub counted : (o : ℕ) → In (tree_uses left b y) (o, true) → descriptor_at c o ≡ descriptor_at b o
