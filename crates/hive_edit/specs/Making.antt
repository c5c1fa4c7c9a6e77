-- What is done where a key is made in place, and what is judged first? (This project's own; the fields: regf format 1.3 and 1.5, key
-- node and key security.)
use Rattle.std.specs.Prelude.{◌≡◌, ◌≤◌, ◌<◌, ℕ, false, Contains, List, [], ◌++◌, length, Some, Ok}
use Rattle.std.specs.Option.{IsSomeAnd}
use Rattle.std.specs.Int.{w32, to_le_bytes}
use Rattle.nt_bytes.specs.declared.version.HiveVersion.{HiveVersion}
use Rattle.hive_model.specs.Limits.{most_bins}
use Rattle.hive_model.specs.Bins.{Bin, look_up, bins_size}
use Rattle.hive_model.specs.Tree.{Tree, key, none}
use Rattle.hive_model.specs.Size.{bulk_of}
use Rattle.hive_model.specs.KeyNode.{KeyNode, key_node_at}
use Rattle.hive_model.specs.Edit.{with_key, at_key, is_bad_name}
use Rattle.hive_model.specs.Walk.{reading, nowhere}
use Rattle.hive_model.specs.Footprint.{key_place, has_key, list_strain_of}
use Rattle.hive_model.specs.Valid.{longest_key_name}
use Rattle.hive_cells.specs.Held.{held_at, patched}
use Rattle.key_index.specs.Lists.{children_at, lists_at, with_child, IsNode, ListsSiblings}
use Rattle.key_index.specs.Relists.{AreApart}
use Rattle.hive_edit.specs.declared.making.Above.{Above}
use Rattle.hive_edit.specs.declared.adding.NewPlace.{NewPlace}
use Rattle.hive_edit.specs.Hive.{HiveCells, cells_in}

-- a key of nothing but a name, a stamp and a descriptor
abbrev pub bare : List ℕ → ℕ → List ℕ → Tree
bare name stamp security = key (record { name = name; flags = 0; stamp = stamp; class = []; security = security; values = [] }) none

-- a part was written over a payload
pub record IsWritten (at place : ℕ) (part : List ℕ) (old new : List Bin) : Type 0 where
  pub here : (p : List ℕ) → held_at old at ≡ Some p → held_at new at ≡ Some (patched place part p)
  pub others : (o : ℕ) → (o ≡ at → ⊥) → held_at new o ≡ held_at old o
  pub long : bins_size new ≡ bins_size old

-- the parent's count and lists, with one child more in lists at an offset, over its bytes 20 to 31
abbrev pub child_fields : ℕ → ℕ → ℕ → List ℕ
child_fields count volatile list = to_le_bytes w32 count ++ (to_le_bytes w32 volatile ++ to_le_bytes w32 list)

-- a key's lists and cells, by what the parent's node says
abbrev pub above_lists : HiveVersion → Above → List Bin → List ℕ
above_lists version above bins = lists_at (look_up version bins) above.list above.count

-- its children, one more among them
abbrev pub above_children : HiveVersion → Above → ℕ → List Bin → List ℕ
above_children version above child bins =
    with_child (look_up version bins) child (children_at (look_up version bins) above.list above.count)

-- what is asked of a parent and its new child: the lists are sound, and its node and its security are cells beside them
pub record IsLinkable (version : HiveVersion) (parent : ℕ) (above : Above) (child : ℕ) (bins : List Bin) : Type 0 where
  pub siblings : ListsSiblings (look_up version bins) above.list above.count
  pub apart : AreApart (above_lists version above bins)
  pub node : IsNode (look_up version bins) child
  pub few : above.count ≤ 2097150
  pub parent_long : IsSomeAnd (held_at bins parent) (λ p. 76 ≤ length p)
  pub parent_apart : Contains (above_lists version above bins) parent → ⊥
  pub security_long : (above.security ≡ nowhere → ⊥) → IsSomeAnd (held_at bins above.security) (λ p. 20 ≤ length p)
  pub security_lists : (above.security ≡ nowhere → ⊥) → Contains (above_lists version above bins) above.security → ⊥
  pub security_parent : (above.security ≡ nowhere → ⊥) → above.security ≡ parent → ⊥

-- there is no room for lists with one child more, and the cells are as they were
abbrev pub LacksListRoom : HiveVersion → Above → ℕ → List Bin → List Bin → Type 0
LacksListRoom version above child old new =
    (most_bins < list_strain_of (bins_size old) (length (above_children version above child old))) × (new ≡ old)

-- ---- the hive

-- what a parent's node says, as the code has it
pub record AboveIs (above : Above) (n : KeyNode) : Type 0 where
  pub list : above.list ≡ n.child_list
  pub count : above.count ≡ n.child_count
  pub volatile : above.volatile ≡ n.volatile_count
  pub security : above.security ≡ n.security

-- the tree with a key of this name below the key at a path
abbrev pub made_tree : List (List ℕ) → List ℕ → Tree → Tree
made_tree parent name t = at_key parent (with_key name) t

-- the path leads to the key at an offset, which has no child of this name, and one may have it
pub record IsOpen (h : HiveCells) (parent : List (List ℕ)) (name : List ℕ) (at : ℕ) : Type 0 where
  pub place : key_place (cells_in h) parent h.root ≡ Some at
  pub absent : has_key parent name h.tree ≡ false
  pub short : length name ≤ longest_key_name
  pub good : is_bad_name name ≡ false
  pub deep : length parent ≤ 510

-- a key of this name may be made below the key at a path, and the bulk is that of its tree
pub record MayMake (h : HiveCells) (parent : List (List ℕ)) (name : List ℕ) (place : NewPlace) : Type 0 where
  pub open_at : IsOpen h parent name place.at
  pub bulk : place.bulk ≡ bulk_of h.version (made_tree parent name h.tree)
  pub few : (n : KeyNode) → reading key_node_at (cells_in h) place.at ≡ Ok n → n.child_count ≤ 2097150
