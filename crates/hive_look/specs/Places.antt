-- Where the keys and values of a tree are in cells. (This project's own.)
use Rattle.std.specs.Prelude.{◌==◌, ℕ, if◌then◌else◌, List, [], ◌∷◌, find, Option, Some, None, Result, Ok, Err}
use Rattle.std.specs.Option.{option_and_then}
use Rattle.nt_bytes.specs.declared.fault.HiveFaultKind.{HiveFaultKind}
use Rattle.hive_model.specs.Bins.{Cells}
use Rattle.std.specs.Result.{IsOk}
use Rattle.nt_bytes.specs.declared.version.HiveVersion.{HiveVersion}
use Rattle.hive_model.specs.Size.{is_big, data_sizes, data_size, cells_sum}
use Rattle.hive_model.specs.KeyValue.{key_value_at, is_in_place}
use Rattle.hive_model.specs.Lists.{offsets_in}
use Rattle.hive_model.specs.Walk.{reading, big_checks, data_checks}
use Rattle.hive_model.specs.Tree.{Item, Tree, dword_in, find_dword, find_key}
use Rattle.hive_model.specs.Footprint.{of_node, of_read, used_in, is_value_named}
use Rattle.hive_model.specs.Stands.{IsWellFormed, item_at}

-- a key is at an offset, with all below it in well-formed cells
abbrev pub IsKeyAt : Cells → ℕ → Type 0
IsKeyAt cells at = (t : Tree) × IsWellFormed cells at t

-- the offsets of the values of the key at an offset, in order
unfoldable pub value_places : Cells → ℕ → List ℕ
value_places cells at =
    of_node cells at (λ node. if node.value_count == 0 then [] else of_read (reading (offsets_in node.value_count) cells node.value_list) (λ offsets. offsets))

-- the offset of the first value that has this name, of the key at an offset
abbrev pub value_place : Cells → List ℕ → ℕ → Option ℕ
value_place cells name at = find (is_value_named cells name) (value_places cells at)

-- the value that was read, if one was
abbrev pub item_read : Result Item HiveFaultKind → Option Item
item_read (Ok v) = Some v
item_read (Err kind) = None

-- the number that the value at an offset is
abbrev pub dword_at : Cells → ℕ → Option ℕ
dword_at cells at = option_and_then dword_in (item_read (item_at cells at))

-- a value is at an offset
abbrev pub IsItemHere : Cells → ℕ → Type 0
IsItemHere cells at = IsOk (item_at cells at)

-- the name of the value in a payload, empty where none is read
unfoldable pub value_name_of : List ℕ → List ℕ
value_name_of p = of_read (key_value_at p) (λ value. value.name)

-- the cells of data of this size, where these are at a place; none where the value holds them itself
abbrev pub data_places_by : Cells → ℕ → ℕ → List ℕ
data_places_by cells size place =
    if is_in_place size then [] else if size == 0 then [] else if is_big cells.version size then used_in (big_checks cells size place) else place ∷ []

-- the cells of the data of the value at an offset
abbrev pub data_places : Cells → ℕ → List ℕ
data_places cells at = of_read (reading key_value_at cells at) (λ value. used_in (data_checks cells value))

-- how many bytes packed cells for data of this size take
abbrev pub room_by : HiveVersion → ℕ → ℕ
room_by version size = if is_in_place size then 0 else cells_sum (data_sizes version size)

-- how many bytes packed cells for the data of a value take
abbrev pub room_for_item : HiveVersion → Result Item HiveFaultKind → ℕ
room_for_item version (Ok item) = data_size version item.bytes
room_for_item version (Err kind) = 0

-- how many bytes packed cells for the data of the value at an offset take
abbrev pub data_room : Cells → ℕ → ℕ
data_room cells at = room_for_item cells.version (item_at cells at)

-- the number under a name in the key that a path leads to
abbrev pub found_dword : List (List ℕ) → List ℕ → Tree → Option ℕ
found_dword path name t = option_and_then (find_dword name) (find_key path t)
