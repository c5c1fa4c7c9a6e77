-- What goes out of cells where a value is deleted. (This project's own; the fields: regf format 1.3 and 1.5, key value and big data.)
use Rattle.std.specs.Prelude.{◌≡◌, ◌<◌, ◌≤◌, ◌+◌, ◌*◌, ℕ, List, [], ◌∷◌, ◌++◌, length, ◌==◌, if◌then◌else◌, Some, None, Ok}
use Rattle.std.specs.Option.{IsSome}
use Rattle.std.specs.Result.{IsOk}
use Rattle.nt_bytes.specs.Fields.{u32_in}
use Rattle.nt_bytes.specs.declared.version.HiveVersion.{HiveVersion}
use Rattle.hive_model.specs.Bins.{Bin, Cells, bins_size, look_up}
use Rattle.hive_model.specs.KeyNode.{KeyNode, key_node_at}
use Rattle.hive_model.specs.KeyValue.{KeyValue}
use Rattle.hive_model.specs.BigData.{BigData, big_data_at}
use Rattle.hive_model.specs.Lists.{offsets_in}
use Rattle.hive_model.specs.Tree.{Tree, is_item}
use Rattle.hive_model.specs.Size.{cell}
use Rattle.hive_model.specs.Edit.{at_key, of_items, without_first}
use Rattle.hive_model.specs.Walk.{reading, data_checks, value_checks}
use Rattle.hive_model.specs.Footprint.{used_in}
use Rattle.hive_model.specs.Stands.{data_of}
use Rattle.hive_cells.specs.Held.{held_at}
use Rattle.edited_cells.specs.Owned.{In, value_places, value_list_at}
use Rattle.edited_cells.specs.Pairs.{Pairwise}
use Rattle.edited_cells.specs.Changes.{TakesValue}
use Rattle.hive_look.specs.Places.{IsItemHere}

-- cells that can be freed one by one: each is allocated, and no two are one
pub record CanGo (bins : List Bin) (cells : List ℕ) : Type 0 where
  pub held : (o : ℕ) → In cells o → IsSome (held_at bins o)
  pub apart : Pairwise (λ p q. p ≡ q → ⊥) cells

-- these cells are gone, and each other one is as it was
pub record AreGone (gone : List ℕ) (old new : List Bin) : Type 0 where
  pub freed : (o : ℕ) → In gone o → held_at new o ≡ None
  pub others : (o : ℕ) → (In gone o → ⊥) → held_at new o ≡ held_at old o
  pub long : bins_size new ≡ bins_size old

-- the cell at an offset has that many offsets in a row
pub record HasOffsets (bins : List Bin) (at count : ℕ) (offsets : List ℕ) : Type 0 where
  pub text : List ℕ
  pub there : held_at bins at ≡ Some text
  pub read : offsets_in count text ≡ Ok offsets

-- big data at an offset have a list here, and segments there
pub record HasSegments (bins : List Bin) (at list : ℕ) (offsets : List ℕ) : Type 0 where
  pub text : List ℕ
  pub big : BigData
  pub there : held_at bins at ≡ Some text
  pub read : big_data_at text ≡ Ok big
  pub place : big.list ≡ list
  pub listed : HasOffsets bins list big.segments offsets

-- a value of that many data, which are here
abbrev pub with_data : ℕ → ℕ → KeyValue
with_data size place = record { size = size; offset = place; kind = 0; flags = 0; name = [] }

-- the cells of these data
unfoldable pub data_cells : Cells → ℕ → ℕ → List ℕ
data_cells cells size place = used_in (data_checks cells (with_data size place))

-- they are read
abbrev pub HasData : Cells → ℕ → ℕ → Type 0
HasData cells size place = IsOk (data_of cells (with_data size place))

-- numbers from one place to another in a payload are each the one after it of another payload, and all others are the same
pub record IsClosed (from to : ℕ) (p q : List ℕ) : Type 0 where
  pub long : length q ≡ length p
  pub before : (i : ℕ) → i < from → u32_in q (4 * i) ≡ u32_in p (4 * i)
  pub moved : (i : ℕ) → from ≤ i → i < to → u32_in q (4 * i) ≡ u32_in p (4 * i + 4)
  pub behind : (i : ℕ) → to ≤ i → u32_in q (4 * i) ≡ u32_in p (4 * i)

-- a payload with its numbers from one place to another moved down by one is here in place of that payload, and each other cell is as it was
pub record ClosesGap (from to list : ℕ) (old new : List Bin) : Type 0 where
  pub here : (p : List ℕ) → held_at old list ≡ Some p → (q : List ℕ) × (held_at new list ≡ Some q) × IsClosed from to p q
  pub others : (o : ℕ) → (o ≡ list → ⊥) → held_at new o ≡ held_at old o
  pub long : bins_size new ≡ bins_size old

-- an offset is no more in a list of these: the others are in the list, which stays, or it is gone where there are none
pub record Unlists (old new : List Bin) (list now : ℕ) (offsets : List ℕ) (offset : ℕ) : Type 0 where
  pub front : List ℕ
  pub back : List ℕ
  pub whole : offsets ≡ front ++ offset ∷ back
  pub stays : (front ++ back ≡ [] → ⊥) → now ≡ list
  pub lists : (front ++ back ≡ [] → ⊥) → HasOffsets new list (length (front ++ back)) (front ++ back)
  pub gone : front ++ back ≡ [] → held_at new list ≡ None
  pub others : (o : ℕ) → (o ≡ list → ⊥) → held_at new o ≡ held_at old o
  pub long : bins_size new ≡ bins_size old

-- a value of a key is in cells that can be freed, and so can the key's value list; the key's node is none of them
pub record CanTake (cells : Cells) (bins : List Bin) (x v : ℕ) : Type 0 where
  pub node : KeyNode
  pub offsets : List ℕ
  pub read : reading key_node_at cells x ≡ Ok node
  pub places : value_places cells x ≡ offsets
  pub list : In (value_list_at cells x) node.value_list
  pub listed : HasOffsets bins node.value_list node.value_count offsets
  pub among : In offsets v
  pub item : IsItemHere cells v
  pub can : CanGo bins (node.value_list ∷ used_in (value_checks cells [] v))
  pub node_apart : (o : ℕ) → In (node.value_list ∷ used_in (value_checks cells [] v)) o → o ≡ x → ⊥

-- a value of a key was taken out, and its cells are free, as is the key's value list, where it named no other
pub record TakesOut (version : HiveVersion) (old new : List Bin) (x v : ℕ) : Type 0 where
  pub node : KeyNode
  pub front : List ℕ
  pub back : List ℕ
  pub text : List ℕ
  pub list : ℕ
  pub read : reading key_node_at (look_up version old) x ≡ Ok node
  pub places : value_places (look_up version old) x ≡ front ++ v ∷ back
  pub takes : TakesValue (look_up version old) (look_up version new) x node front back v text list
  pub freed : (o : ℕ) → In (used_in (value_checks (look_up version old) [] v)) o → held_at new o ≡ None
  pub unlisted : front ++ back ≡ [] → (o : ℕ) → In (value_list_at (look_up version old) x) o → held_at new o ≡ None
  pub long : bins_size new ≡ bins_size old

-- the size of the list of that many values; 0 for none
abbrev pub list_room : ℕ → ℕ
list_room n = if n == 0 then 0 else cell (4 * n)

-- the tree without a value
abbrev pub unset_tree : List (List ℕ) → List ℕ → Tree → Tree
unset_tree path name t = at_key path (of_items (without_first (is_item name))) t
