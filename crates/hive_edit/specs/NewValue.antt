-- What is done where a key gets a value of a new name? (This project's own; the fields: regf format 1.3 and 1.5, key node and key value.)
use Rattle.std.specs.Prelude.{◌≡◌, ◌≤◌, ◌<◌, ℕ, suc, ◌+◌, ◌*◌, List, [], ◌∷◌, ◌++◌, length, Some, None, Ok}
use Rattle.std.specs.Option.{option_map}
use Rattle.nt_bytes.specs.declared.version.HiveVersion.{HiveVersion}
use Rattle.hive_model.specs.Limits.{most_bins}
use Rattle.hive_model.specs.Bins.{Bin, Cells, bins_size, look_up}
use Rattle.hive_model.specs.Tree.{Tree, Item}
use Rattle.hive_model.specs.Size.{cell, item_size}
use Rattle.hive_model.specs.KeyNode.{KeyNode, key_node_at}
use Rattle.hive_model.specs.Lists.{offsets_text}
use Rattle.hive_model.specs.Packed.{item_cells}
use Rattle.hive_model.specs.Edit.{at_key, of_items, with_item}
use Rattle.hive_model.specs.Walk.{reading}
use Rattle.hive_model.specs.Footprint.{key_place}
use Rattle.hive_model.specs.Valid.{longest_data, longest_value_name}
use Rattle.hive_cells.specs.Held.{held_at, patched, run_cells}
use Rattle.hive_cells.specs.Holes.{new_bin_size}
use Rattle.edited_cells.specs.Owned.{In, value_places, value_list_at}
use Rattle.edited_cells.specs.Changes.{AddsValue}
use Rattle.edited_cells.specs.Written.{two_numbers}
use Rattle.hive_edit.specs.declared.new_value.ValuePlace.{ValuePlace}
use Rattle.hive_edit.specs.Gone.{HasOffsets}
use Rattle.hive_edit.specs.Hive.{HiveCells, cells_in}
use Rattle.hive_look.specs.Places.{value_place}
use Rattle.hive_edit.specs.Runs.{IsRunPutAt}

-- The cells of the run: the value's cell, those of its data, and the list of these offsets with the value after them. The list comes last, so
-- that what is free once it is given up is one with the rest of its bin, and holds a list that is longer by one.
unfoldable pub added_cells : HiveVersion → ℕ → List ℕ → Item → List (List ℕ)
added_cells version place offsets v = item_cells version place v ++ offsets_text (offsets ++ place ∷ []) ∷ []

-- how many bytes it has, for a key that had that many values
abbrev pub added_size : HiveVersion → ℕ → Item → ℕ
added_size version count v = cell (4 * suc count) + item_size version v

-- a key of that many values has their offsets in this list; a key of none has no list
pub record ListsThese (bins : List Bin) (list count : ℕ) (offsets : List ℕ) : Type 0 where
  pub number : length offsets ≡ count
  pub there : (count ≡ 0 → ⊥) → HasOffsets bins list count offsets

-- a key's node is read, its values are listed, and their list is no other cell of the key
pub record CanAdd (cells : Cells) (bins : List Bin) (x : ℕ) : Type 0 where
  pub node : KeyNode
  pub offsets : List ℕ
  pub read : reading key_node_at cells x ≡ Ok node
  pub places : value_places cells x ≡ offsets
  pub listed : ListsThese bins node.value_list node.value_count offsets
  pub list : (node.value_count ≡ 0 → ⊥) → In (value_list_at cells x) node.value_list
  pub apart : (node.value_count ≡ 0 → ⊥) → node.value_list ≡ x → ⊥

-- A run was put at a place, the node at x counts one value more and has their list at an offset, and the old list of that many, if there
-- was one, is freed.
pub record IsRelistedAt (x list count place at : ℕ) (run : List ℕ) (old new : List Bin) : Type 0 where
  pub mid : List Bin
  pub put : IsRunPutAt (length run) place (run_cells run) old mid
  pub here : held_at new x ≡ option_map (patched 36 (two_numbers (count + 1) at)) (held_at mid x)
  pub freed : (count ≡ 0 → ⊥) → held_at new list ≡ None
  pub others : (o : ℕ) → (o ≡ x → ⊥) → ((count ≡ 0 → ⊥) → o ≡ list → ⊥) → held_at new o ≡ held_at mid o
  pub long : bins_size new ≡ bins_size mid

-- a value of a new name was put after the others of a key, whose old value list is free
pub record PutsValue (version : HiveVersion) (old new : List Bin) (x : ℕ) (v : Item) : Type 0 where
  pub node : KeyNode
  pub offsets : List ℕ
  pub place : ℕ
  pub text : List ℕ
  pub list : ℕ
  pub read : reading key_node_at (look_up version old) x ≡ Ok node
  pub places : value_places (look_up version old) x ≡ offsets
  pub adds : AddsValue (look_up version old) (look_up version new) x node offsets place text list v
  pub freed : (o : ℕ) → In (value_list_at (look_up version old) x) o → held_at new o ≡ None
  pub least : bins_size old ≤ bins_size new
  pub long : bins_size new ≤ bins_size old + new_bin_size (added_size version node.value_count v)

-- there is no room for the run: the bins data would be longer than 16,777,216 bytes by a new bin
pub record LacksRoomForValue (version : HiveVersion) (bins : List Bin) (x : ℕ) (v : Item) : Type 0 where
  pub node : KeyNode
  pub read : reading key_node_at (look_up version bins) x ≡ Ok node
  pub full : most_bins < bins_size bins + new_bin_size (added_size version node.value_count v)

-- the key at a path is at an offset, and has no value of this name, which is not too long for one
pub record IsNewIn (h : HiveCells) (path : List (List ℕ)) (name : List ℕ) (x : ℕ) : Type 0 where
  pub key : key_place (cells_in h) path h.root ≡ Some x
  pub absent : value_place (cells_in h) name x ≡ None
  pub short : length name ≤ longest_value_name

-- the tree with a value of this type and data
abbrev pub set_tree : List (List ℕ) → List ℕ → ℕ → List ℕ → Tree → Tree
set_tree path name kind bytes t = at_key path (of_items (with_item name kind bytes)) t

-- a value of this name and these data may be set at a place: in the key at a path, which has this value of the name, or none
pub record MaySet (h : HiveCells) (path : List (List ℕ)) (name bytes : List ℕ) (place : ValuePlace) : Type 0 where
  pub key : key_place (cells_in h) path h.root ≡ Some place.key
  pub there : place.value ≡ value_place (cells_in h) name place.key
  pub short : length name ≤ longest_value_name
  pub few : length bytes ≤ longest_data
