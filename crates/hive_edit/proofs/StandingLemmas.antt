-- The tree that is in cells is the one that the function of them gives.
use Rattle.std.proofs.Common.{◌≡◌, ◌≤◌, ℕ, zero, suc, List, map, sym, ap, ◌∙◌, arith}
use Rattle.hive_model.specs.Bins.{Cells}
use Rattle.hive_model.specs.KeyNode.{key_node_at}
use Rattle.hive_model.specs.Tree.{Head, Tree, Trees, key, none, more, trees}
use Rattle.hive_model.specs.Valid.{levels, most_levels}
use Rattle.hive_model.specs.Walk.{reading}
use Rattle.hive_model.specs.Footprint.{child_places}
use Rattle.hive_model.specs.Stands.{KeyStands, Stands, AllStand, IsWellFormed}
use Rattle.hive_edit.specs.Standing.{list_read, head_of, tree_at, tree_of}
use Rattle.edited_cells.proofs.Wellformed.{places_are}

-- what a key that stands says of itself
pub head_stands : (cells : Cells) (at : ℕ) (h : Head) (offsets : List ℕ) → KeyStands cells at h offsets
    → head_of cells (reading key_node_at cells at) ≡ h
head_stands cells at h offsets s =
    ap (head_of cells) s.read
    ∙ (λ i. record {
      name = sym s.name i;
      flags = sym s.flags i;
      stamp = sym s.stamp i;
      class = list_read (s.class i);
      security = list_read (s.security i);
      values = list_read (s.values i);
    })

mutual
  unfolding tree_at

  pub tree_at_is : (left : ℕ) (cells : Cells) (at : ℕ) (t : Tree) → Stands cells at t → levels t ≤ left
      → tree_at left cells at ≡ t
  tree_at_is zero cells at (key h ts) s l = absurd (omega arith)
  tree_at_is (suc left) cells at (key h ts) s l =
      let heads : head_of cells (reading key_node_at cells at) ≡ h = head_stands cells at h s.0 s.1 in
      let below : trees (map (tree_at left cells) (child_places cells at)) ≡ ts =
      ap (λ (os : List ℕ). trees (map (tree_at left cells) os)) (places_are cells at h s.0 s.1)
      ∙ trees_at_are left cells s.0 ts s.2 (omega arith) in
      λ i. key (heads i) (below i)

  trees_at_are : (left : ℕ) (cells : Cells) (offsets : List ℕ) (ts : Trees) → AllStand cells offsets ts
      → most_levels ts ≤ left → trees (map (tree_at left cells) offsets) ≡ ts
  trees_at_are left cells offsets none s l = ap (λ (os : List ℕ). trees (map (tree_at left cells) os)) s
  trees_at_are left cells offsets (more t ts) s l =
      let first : tree_at left cells s.0 ≡ t = tree_at_is left cells s.0 t s.3 (omega arith) in
      let rest : trees (map (tree_at left cells) s.1) ≡ ts = trees_at_are left cells s.1 ts s.4 (omega arith) in
      ap (λ (os : List ℕ). trees (map (tree_at left cells) os)) s.2 ∙ (λ i. more (first i) (rest i))

-- the tree of well-formed cells
pub tree_is : (cells : Cells) (root : ℕ) (t : Tree) → IsWellFormed cells root t → tree_of cells root ≡ t
unfolding tree_of
tree_is cells root t w = tree_at_is 512 cells root t w.stands w.levels
