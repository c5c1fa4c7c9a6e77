-- Which tree is in cells (regf format 1.3 and 1.5, key node and what it names).
use Rattle.std.specs.Prelude.{◌≡◌, ◌≤◌, ◌<◌, ℕ, ◌-◌, ◌==◌, if◌then◌else◌, MatchBool, List, [], ◌∷◌, ◌++◌, length, Option, Some, None, Result, Ok}
use Rattle.std.specs.List.{All}
use Rattle.nt_bytes.specs.declared.fault.HiveFaultKind.{HiveFaultKind}
use Rattle.nt_bytes.specs.Reading.{◌>>=◌}
use Rattle.hive_model.specs.Forms.{bytes_in}
use Rattle.hive_model.specs.KeyNode.{KeyNode, key_node_at, is_narrow_key}
use Rattle.hive_model.specs.KeyValue.{KeyValue, key_value_at, data_inside}
use Rattle.hive_model.specs.Security.{security_at}
use Rattle.hive_model.specs.Lists.{offsets_in}
use Rattle.hive_model.specs.Tree.{Tree, Trees, key, none, more, listed, Head, head, Item}
use Rattle.hive_model.specs.Size.{segment_bytes, is_big, segment_part}
use Rattle.hive_model.specs.Bins.{Cells}
use Rattle.hive_model.specs.Walk.{reading, nowhere, big_data_of, entries_at, all_checks, AreUsedOnce}
use Rattle.hive_model.specs.Valid.{deepest_level, KeysDiffer, ItemsDiffer, levels}

-- ---- what a key node and a value say of themselves

-- a node's flags without the bit that says how its name is stored
abbrev pub tree_flags : ℕ → ℕ
tree_flags flags = if is_narrow_key flags then flags - 32 else flags

-- a key's class: the first bytes of its cell, and none where the length is 0
unfoldable pub class_of : Cells → KeyNode → Result (List ℕ) HiveFaultKind
class_of cells node = if node.class_length == 0 then Ok [] else reading (bytes_in node.class_length) cells node.class

-- a key's descriptor, empty where it has none
unfoldable pub security_of : Cells → KeyNode → Result (List ℕ) HiveFaultKind
security_of cells node = if node.security == nowhere then Ok [] else reading security_at cells node.security >>= λ s. Ok s.descriptor

-- data that the value holds, or else those of cells
abbrev pub data_or : Option (List ℕ) → Result (List ℕ) HiveFaultKind → Result (List ℕ) HiveFaultKind
data_or (Some bytes) other = Ok bytes
data_or None other = other

-- the n bytes that the segments at these offsets hold, joined in order
abbrev pub joined_segments : Cells → ℕ → List ℕ → Result (List ℕ) HiveFaultKind
joined_segments cells n [] = Ok []
joined_segments cells n (at ∷ rest) =
    reading (bytes_in (segment_part n)) cells at >>= λ bytes. joined_segments cells (n - segment_bytes) rest >>= λ others.
    Ok (bytes ++ others)

-- big data of n bytes, whose cell `db` is at an offset
unfoldable pub big_bytes_at : Cells → ℕ → ℕ → Result (List ℕ) HiveFaultKind
big_bytes_at cells n at =
    reading (big_data_of n) cells at >>= λ big. reading (offsets_in big.segments) cells big.list >>= joined_segments cells n

-- a value's data
unfoldable pub data_of : Cells → KeyValue → Result (List ℕ) HiveFaultKind
data_of cells value =
    data_or (data_inside value)
    (if is_big cells.version value.size then big_bytes_at cells value.size value.offset
    else reading (bytes_in value.size) cells value.offset)

-- the value that is at an offset
unfoldable pub item_at : Cells → ℕ → Result Item HiveFaultKind
item_at cells at =
    reading key_value_at cells at >>= λ value. data_of cells value >>= λ bytes.
    Ok (record { name = value.name; kind = value.kind; bytes = bytes })

-- the values that are at these offsets, in order
abbrev pub items_at : Cells → List ℕ → Result (List Item) HiveFaultKind
items_at cells [] = Ok []
items_at cells (at ∷ rest) = item_at cells at >>= λ item. items_at cells rest >>= λ items. Ok (item ∷ items)

-- a key's values
unfoldable pub values_of : Cells → KeyNode → Result (List Item) HiveFaultKind
values_of cells node =
    if node.value_count == 0 then Ok [] else reading (offsets_in node.value_count) cells node.value_list >>= items_at cells

-- ---- a tree

-- the list at an offset names these children, in order
abbrev pub ListsAt : Cells → ℕ → List ℕ → Type 0
ListsAt cells at offsets = entries_at cells at ≡ Ok offsets

-- a key's children are at these offsets: the same number as its node counts; where that is none, its list is not looked at
abbrev pub ListsChildren : Cells → KeyNode → List ℕ → Type 0
ListsChildren cells node offsets =
    MatchBool (node.child_count == 0) (offsets ≡ []) (ListsAt cells node.child_list offsets × (length offsets ≡ node.child_count))

-- a key is here, with all that it says of itself, and its children are at these offsets
pub record KeyStands (cells : Cells) (at : ℕ) (h : Head) (offsets : List ℕ) : Type 0 where
  pub node : KeyNode
  pub read : reading key_node_at cells at ≡ Ok node
  pub name : h.name ≡ node.name
  pub flags : h.flags ≡ tree_flags node.flags
  pub stamp : h.stamp ≡ node.stamp
  pub class : class_of cells node ≡ Ok h.class
  pub security : security_of cells node ≡ Ok h.security
  pub values : values_of cells node ≡ Ok h.values
  pub children : ListsChildren cells node offsets

abbrev mutual
  -- the tree is at the offset
  pub Stands : Cells → ℕ → Tree → Type 0
  Stands cells at (key h ts) = (offsets : List ℕ) × KeyStands cells at h offsets × AllStand cells offsets ts

  -- the trees are at the offsets, in order
  pub AllStand : Cells → List ℕ → Trees → Type 0
  AllStand cells offsets none = offsets ≡ []
  AllStand cells offsets (more t ts) = (at : ℕ) × (rest : List ℕ) × (offsets ≡ at ∷ rest) × Stands cells at t × AllStand cells rest ts

-- ---- well-formed cells

-- each key but the topmost has a name, and the names of siblings and of a key's values differ by fold
abbrev mutual
  pub HasApartNames : Tree → Type 0
  HasApartNames (key h ts) = ItemsDiffer h.values × All (λ t. 0 < length (head t).name) (listed ts) × KeysDiffer (listed ts) × HaveApartNames ts

  -- the names are apart in each of these trees
  pub HaveApartNames : Trees → Type 0
  HaveApartNames none = Unit {0}
  HaveApartNames (more t ts) = HasApartNames t × HaveApartNames ts

-- The cells are well-formed at the root, and this tree stands there.
pub record IsWellFormed (cells : Cells) (root : ℕ) (t : Tree) : Type 0 where
  pub stands : Stands cells root t
  pub levels : levels t ≤ deepest_level
  pub names : HasApartNames t
  pub once : AreUsedOnce (all_checks cells root)
