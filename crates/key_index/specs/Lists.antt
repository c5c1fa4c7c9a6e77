-- Which children does a key's list name, and what does a search ask of them?
use Rattle.std.specs.Prelude.{◌≡◌, ◌<◌, ℕ, ◌==◌, Bool, true, false, not, if◌then◌else◌, List, [], ◌∷◌, ◌++◌, length, take, drop, map, filter, Contains}
use Rattle.std.specs.Result.{IsOk}
use Rattle.std.specs.Ordering.{is_gt}
use Rattle.std.specs.List.{All, AllPairs, flat_map, position_or_len}
use Rattle.std.specs.Int.{w32, to_le_bytes}
use Rattle.nt_bytes.specs.Fields.{u16_in}
use Rattle.nt_bytes.specs.Folding.{folds_same, folded_order}
use Rattle.nt_bytes.specs.declared.version.HiveVersion.{HiveVersion}
use Rattle.nt_bytes.specs.declared.version.HiveVersion.TheVariants.{V3, V5}
use Rattle.hive_model.specs.Bins.{Cells}
use Rattle.hive_model.specs.KeyNode.{is_narrow_key, key_node_at}
use Rattle.hive_model.specs.Lists.{list_at, hint_of, hash_of}
use Rattle.hive_model.specs.Walk.{entries_at, entries_checks}
use Rattle.hive_model.specs.Footprint.{of_read, used_in, is_node_named}

-- ---- what a payload says, empty where it is not read

-- the payload of the cell at an offset
unfoldable pub payload_in : Cells → ℕ → List ℕ
payload_in cells at = of_read (cells.payload at) (λ p. p)

-- the offsets that the list in a payload names
unfoldable pub offsets_of : List ℕ → List ℕ
offsets_of p = of_read (list_at p) (λ list. list.offsets)

-- how many bytes an entry of the list in a payload has: in `li` and `ri` the offset alone, in the others a hint too
abbrev pub entry_size : List ℕ → ℕ
entry_size p = if u16_in p 0 == 0x696c then 4 else if u16_in p 0 == 0x6972 then 4 else 8

-- the list in a payload is an `ri`, which lists lists
abbrev pub lists_lists : List ℕ → Bool
lists_lists p = u16_in p 0 == 0x6972

-- the name of the key node in a payload
unfoldable pub name_of : List ℕ → List ℕ
name_of p = of_read (key_node_at p) (λ node. node.name)

-- the name of the key node at an offset
abbrev pub name_in : Cells → ℕ → List ℕ
name_in cells at = name_of (payload_in cells at)

-- the offsets that the list at an offset names
abbrev pub offsets_in_list : Cells → ℕ → List ℕ
offsets_in_list cells at = offsets_of (payload_in cells at)

-- the offsets that these lists name, in order
abbrev pub offsets_in_lists : Cells → List ℕ → List ℕ
offsets_in_lists cells lists = flat_map (offsets_in_list cells) lists

-- ---- children

-- the offsets of a key's children, in order, where its node has this list and counts that many; where that is none, the list is
-- not looked at
abbrev pub children_at : Cells → ℕ → ℕ → List ℕ
children_at cells list count = if count == 0 then [] else of_read (entries_at cells list) (λ offsets. offsets)

-- a key node is at an offset
abbrev pub IsNode : Cells → ℕ → Type 0
IsNode cells at = IsOk (key_node_at (payload_in cells at))

-- the names of the key nodes at these offsets differ by fold
abbrev pub NamesDiffer : Cells → List ℕ → Type 0
NamesDiffer cells offsets = AllPairs (λ a b. folds_same (name_in cells b) (name_in cells a) ≡ false) offsets

-- at each of these offsets is a list
abbrev pub AreRead : Cells → List ℕ → Type 0
AreRead cells lists = All (λ at. IsOk (list_at (payload_in cells at))) lists

-- at each of these offsets is a list that is no list of lists, and key nodes are at the offsets that it names
abbrev pub AreLists : Cells → List ℕ → Type 0
AreLists cells lists = All (λ at. IsOk (list_at (payload_in cells at)) × All (IsNode cells) (offsets_in_list cells at)) lists

-- the offset is among these, and the key node there has this name
abbrev pub Finds : Cells → List ℕ → List ℕ → ℕ → Type 0
Finds cells name offsets at = Contains offsets at × (is_node_named cells name at ≡ true)

-- the lists at an offset stand for that many children: key nodes, whose names differ by fold
pub record ListsSiblings (cells : Cells) (list count : ℕ) : Type 0 where
  pub read : 0 < count → IsOk (entries_at cells list)
  pub number : length (children_at cells list count) ≡ count
  pub nodes : All (IsNode cells) (children_at cells list count)
  pub apart : NamesDiffer cells (children_at cells list count)

-- ---- a child more, a child less

-- the offsets of the cells of the lists of that many children: of the list, and of the lists in it if it lists lists
unfoldable pub lists_at : Cells → ℕ → ℕ → List ℕ
lists_at cells list count = if count == 0 then [] else used_in (entries_checks cells list)

-- the name of the key node at an offset folds greater than this one
abbrev pub is_behind : Cells → List ℕ → ℕ → Bool
is_behind cells name at = is_gt (folded_order (name_in cells at) name)

-- children with one more, which stands before the first whose name folds greater, else last
abbrev pub with_child : Cells → ℕ → List ℕ → List ℕ
with_child cells child offsets =
    let place = position_or_len (is_behind cells (name_in cells child)) offsets in take place offsets ++ (child ∷ drop place offsets)

-- children without one
abbrev pub without_child : ℕ → List ℕ → List ℕ
without_child child offsets = filter (λ at. not (at == child)) offsets

-- the four bytes that a list has for a name that is stored with one byte a unit, or with two: of the name itself, in version 1.5
-- its hash
abbrev pub stored_hint : HiveVersion → Bool → List ℕ → List ℕ
stored_hint V3 narrow name = hint_of narrow name
stored_hint V5 narrow name = to_le_bytes w32 (hash_of name)

-- the bytes that a list has beside the key node in a payload, by how its name is stored there
abbrev pub node_hint : HiveVersion → List ℕ → List ℕ
node_hint version p = stored_hint version (is_narrow_key (u16_in p 2)) (name_of p)

-- the bytes that a list has for the key node at an offset beside it
abbrev pub hint_in : Cells → ℕ → List ℕ
hint_in cells at = node_hint cells.version (payload_in cells at)

-- the same of each of these
abbrev pub hints_in : Cells → List ℕ → List (List ℕ)
hints_in cells offsets = map (hint_in cells) offsets
