-- The packed form of a tree in a version: one bin, in which each key stands with its cells in sequence, and after them
-- its children in order (the forms: regf format 1.3 and 1.5; the order of the cells, what is shared and the length of the lists:
-- this project's own).
--
-- The cells of a key, in order:
--     its node
--     its class, if it is not empty
--     its descriptor, if it is not empty and not the one of the key above
--     its value list, if it has values, and then for each value its cell and the cells of data of over four bytes: one, or in
--     version 1.5 for over 16,344 bytes `db`, the list of the segments, and the segments, each but the last full
--     its subkey list, if it has children: one `lf`, in version 1.5 `lh`, for at most 500, else an `ri` and such lists, each but
--     the last full
--     its children, each with all its cells
use Rattle.std.specs.Prelude.{ℕ, zero, suc, ◌+◌, ◌-◌, ◌*◌, ◌/◌, ◌%◌, ◌==◌, nat_eq, nat_lt, max, true, false, if◌then◌else◌, List, [], ◌∷◌, ◌++◌, length, take, drop, map}
use Rattle.std.specs.Int.{w32, from_le_bytes, to_le_bytes}
use Rattle.std.specs.List.{flat_map}
use lib.ListN.{replicate}
use lib.Pointwise.{pointwise}
use Rattle.nt_bytes.specs.declared.version.HiveVersion.{HiveVersion}
use Rattle.nt_bytes.specs.declared.version.HiveVersion.TheVariants.{V3, V5}
use Rattle.hive_model.specs.Tree.{Item, Head, Tree, Trees, key, none, more, listed, head}
use Rattle.hive_model.specs.Size.{cell, is_narrow, name_bytes, segment_bytes, is_big, segment_count, item_size, items_size, class_size, has_own, security_size, node_size, part_count, list_size, count, size}
use Rattle.hive_model.specs.Bins.{Cell, Bin, cell_bytes, spelled}
use Rattle.hive_model.specs.KeyNode.{KeyNode, key_node_text}
use Rattle.hive_model.specs.KeyValue.{KeyValue, key_value_text}
use Rattle.hive_model.specs.BigData.{big_data_text}
use Rattle.hive_model.specs.Security.{security_text}
use Rattle.hive_model.specs.Lists.{offsets_text, lf_text, lh_text, ri_text, hint_of, hash_of}
use Rattle.hive_model.specs.Walk.{nowhere}

-- ---- cells in a row, each known by what is spelled in it

-- a payload, filled with zeros to the end of its cell
unfoldable pub filled : List ℕ → List ℕ
filled p = p ++ replicate (cell (length p) - 4 - length p) 0

-- an allocated cell with this payload
abbrev pub allocated_cell : List ℕ → Cell
allocated_cell p = record { allocated = true; payload = filled p }

-- its bytes
unfoldable pub cell_text : List ℕ → List ℕ
cell_text p = cell_bytes (allocated_cell p)

-- the bytes of cells in a row
abbrev pub text : List (List ℕ) → List ℕ
text ps = flat_map cell_text ps

-- ---- a value

-- where the cells of a value's data begin, if it has any
abbrev pub data_place : ℕ → Item → ℕ
data_place at v = at + cell (20 + name_bytes v.name)

-- what a value's cell says that stands here; data of at most four bytes are in it
abbrev pub item_form : ℕ → Item → KeyValue
item_form at v = record {
  size = if nat_lt 4 (length v.bytes) then length v.bytes else 2147483648 + length v.bytes;
  offset = if nat_lt 4 (length v.bytes) then data_place at v else from_le_bytes w32 (v.bytes ++ replicate (4 - length v.bytes) 0);
  kind = v.kind;
  flags = if is_narrow v.name then 1 else 0;
  name = v.name;
}

-- where full segments begin that are in sequence, that many of them
abbrev pub segment_places : ℕ → ℕ → List ℕ
segment_places zero at = []
segment_places (suc n) at = at ∷ segment_places n (at + cell segment_bytes)

-- that many segments with these bytes, each but the last full
abbrev pub segments : ℕ → List ℕ → List (List ℕ)
segments zero bytes = []
segments (suc n) bytes = take segment_bytes bytes ∷ segments n (drop segment_bytes bytes)

-- big data in that many segments from here on: their cell `db`, the list of the segments, and the segments
unfoldable pub big_cells : ℕ → ℕ → List ℕ → List (List ℕ)
big_cells at n bytes =
    big_data_text (record { segments = n; list = at + cell 8 })
    ∷ offsets_text (segment_places n (at + cell 8 + cell (4 * n)))
    ∷ segments n bytes

-- the cells of a value's data of over four bytes, from here on
abbrev pub data_cells : HiveVersion → ℕ → List ℕ → List (List ℕ)
data_cells version at bytes =
    if is_big version (length bytes) then big_cells at (segment_count (length bytes)) bytes
    else if nat_lt 4 (length bytes) then bytes ∷ []
    else []

-- a value's cell, and those of its data
unfoldable pub item_cells : HiveVersion → ℕ → Item → List (List ℕ)
item_cells version at v = key_value_text (item_form at v) ∷ data_cells version (data_place at v) v.bytes

-- values in sequence from here on
abbrev pub cells_of_items : HiveVersion → ℕ → List Item → List (List ℕ)
cells_of_items version at [] = []
cells_of_items version at (v ∷ vs) = item_cells version at v ++ cells_of_items version (at + item_size version v) vs

-- where they begin
abbrev pub item_places : HiveVersion → ℕ → List Item → List ℕ
item_places version at [] = []
item_places version at (v ∷ vs) = at ∷ item_places version (at + item_size version v) vs

-- the value list and the values
unfoldable pub items_cells : HiveVersion → ℕ → List Item → List (List ℕ)
items_cells version at [] = []
items_cells version at (v ∷ vs) =
    let first = at + cell (4 * length (v ∷ vs)) in offsets_text (item_places version first (v ∷ vs)) ∷ cells_of_items version first (v ∷ vs)

-- ---- where the parts of a key begin, under a key with a descriptor

-- where the descriptor of a key begins, if it has a cell
abbrev pub descriptor_place : ℕ → Head → ℕ
descriptor_place at h = at + node_size h + class_size h.class

-- where the value list of a key begins
abbrev pub values_place : List ℕ → ℕ → Head → ℕ
values_place shared at h = descriptor_place at h + security_size shared h.security

-- where the subkey list of a key begins
abbrev pub list_place : HiveVersion → List ℕ → ℕ → Head → ℕ
list_place version shared at h = values_place shared at h + items_size version h.values

-- where the first child of a key with n children begins
abbrev pub children_place : HiveVersion → List ℕ → ℕ → Head → ℕ → ℕ
children_place version shared at h n = list_place version shared at h + list_size n

-- ---- the ring of security cells

-- the place, if a descriptor has its own cell there
abbrev pub own_place : List ℕ → ℕ → List ℕ → List ℕ
own_place shared at s = if has_own shared s then at ∷ [] else []

-- where security cells are in a tree, in order
abbrev mutual
  pub ring : HiveVersion → List ℕ → ℕ → Tree → List ℕ
  ring version shared at (key h ts) =
      own_place shared (descriptor_place at h) h.security
      ++ ring_of_all version h.security (children_place version shared at h (count ts)) ts

  -- where security cells are in trees in sequence from here on, under a key with this descriptor, in order
  pub ring_of_all : HiveVersion → List ℕ → ℕ → Trees → List ℕ
  ring_of_all version shared at none = []
  ring_of_all version shared at (more t ts) = ring version shared at t ++ ring_of_all version shared (at + size version shared t) ts

-- the first of a list, or else this
abbrev pub first_or : ℕ → List ℕ → ℕ
first_or d [] = d
first_or d (x ∷ xs) = x

-- the last of a list, or else this
abbrev pub last_or : ℕ → List ℕ → ℕ
last_or d [] = d
last_or d (x ∷ xs) = last_or x xs

-- what stands after a place, or else this
abbrev pub behind : ℕ → List ℕ → ℕ → ℕ
behind otherwise [] at = otherwise
behind otherwise (x ∷ xs) at = if x == at then first_or otherwise xs else behind otherwise xs at

-- what stands before a place, or else this
abbrev pub ahead : ℕ → List ℕ → ℕ → ℕ
ahead otherwise [] at = otherwise
ahead otherwise (x ∷ xs) at = if x == at then otherwise else ahead x xs at

-- the place of the security cell after the one at a place; after the last stands the first (regf format, Key security)
abbrev pub forward : List ℕ → ℕ → ℕ
forward places at = behind (first_or 0 places) places at

-- the place of the security cell before the one at a place; before the first stands the last (regf format, Key security)
abbrev pub backward : List ℕ → ℕ → ℕ
backward places at = ahead (last_or 0 places) places at

-- how many keys of a tree use this descriptor's cell, as the key above does: those that have it, as each key between does
abbrev mutual
  pub sharers : List ℕ → Tree → ℕ
  sharers s (key h ts) = if pointwise nat_eq s h.security then 1 + sharers_of_all s ts else 0

  -- how many keys of these trees use this descriptor's cell, as the key above them does
  pub sharers_of_all : List ℕ → Trees → ℕ
  sharers_of_all s none = 0
  sharers_of_all s (more t ts) = sharers s t + sharers_of_all s ts

-- ---- a key

-- what is passed to the children of a key: where it stands, its descriptor, where that stands, and the ring
pub record Above : Type 0 where
  pub place : ℕ
  pub security : List ℕ
  pub security_place : ℕ
  pub ring : List ℕ

-- what is passed to the root
abbrev pub top : List ℕ → Above
top ring = record { place = nowhere; security = []; security_place = nowhere; ring = ring }

-- where the descriptor of a key stands, which would have its own cell here
abbrev pub security_place_of : Above → ℕ → List ℕ → ℕ
security_place_of up at [] = nowhere
security_place_of up at (b ∷ s) = if has_own up.security (b ∷ s) then at else up.security_place

-- what a key that stands here passes to its children
abbrev pub below : Above → ℕ → Head → Above
below up at h = record { place = at; security = h.security; security_place = security_place_of up (descriptor_place at h) h.security; ring = up.ring }

-- the greatest of what is measured of items; 0 of none
abbrev pub greatest : {X : Type 0} → (X → ℕ) → List X → ℕ
greatest measure [] = 0
greatest measure (x ∷ xs) = max (measure x) (greatest measure xs)

-- a place, if there is anything to stand there
abbrev pub place_of_some : ℕ → ℕ → ℕ
place_of_some n at = if n == 0 then nowhere else at

-- the flags as they are stored: the bit 0x0020 says that the name has one byte a unit (regf format, Key node)
abbrev pub stored_flags : List ℕ → ℕ → ℕ
stored_flags name flags = flags - flags / 32 % 2 * 32 + (if is_narrow name then 32 else 0)

-- what the node of a key with these children says; lengths of names are those in UTF-16
abbrev pub node_of : HiveVersion → Above → ℕ → Head → List Tree → KeyNode
node_of version up at h keys = record {
  flags = stored_flags h.name h.flags;
  stamp = h.stamp;
  parent = up.place;
  child_count = length keys;
  volatile_count = 0;
  child_list = place_of_some (length keys) (list_place version up.security at h);
  volatile_list = nowhere;
  value_count = length h.values;
  value_list = place_of_some (length h.values) (values_place up.security at h);
  security = security_place_of up (descriptor_place at h) h.security;
  class = place_of_some (length h.class) (at + node_size h);
  greatest_child_name = greatest (λ k. 2 * length (head k).name) keys;
  greatest_child_class = greatest (λ k. length (head k).class) keys;
  greatest_value_name = greatest (λ (v : Item). 2 * length v.name) h.values;
  greatest_value_size = greatest (λ (v : Item). length v.bytes) h.values;
  class_length = length h.class;
  name = h.name;
}

-- the cell of a class
unfoldable pub class_cells : List ℕ → List (List ℕ)
class_cells [] = []
class_cells (b ∷ c) = (b ∷ c) ∷ []

-- the cell of a descriptor, which that many keys below use too
unfoldable pub security_cells : Above → ℕ → List ℕ → ℕ → List (List ℕ)
security_cells up at s others =
    if has_own up.security s
    then security_text (record { forward = forward up.ring at; backward = backward up.ring at; uses = 1 + others; descriptor = s }) ∷ []
    else []

-- all cells of a key before its subkey lists
unfoldable pub head_cells : HiveVersion → Above → ℕ → Head → Trees → List (List ℕ)
head_cells version up at h ts =
    key_node_text (node_of version up at h (listed ts))
    ∷ (class_cells h.class
    ++ (security_cells up (descriptor_place at h) h.security (sharers_of_all h.security ts)
    ++ items_cells version (values_place up.security at h) h.values))

-- ---- the subkey lists

-- where full lists begin that are in sequence, that many of them
abbrev pub part_places : ℕ → ℕ → List ℕ
part_places zero at = []
part_places (suc n) at = at ∷ part_places n (at + cell 4004)

-- a list of children with hints, in the form that a version is written in
abbrev pub list_text : HiveVersion → List ℕ → List (List ℕ) → List ℕ
list_text V3 places hints = lf_text places hints
list_text V5 places hints = lh_text places hints

-- lists of 500 entries and then of the rest, that many of them
abbrev pub parts : HiveVersion → ℕ → List ℕ → List (List ℕ) → List (List ℕ)
parts version zero places hints = []
parts version (suc n) places hints = list_text version (take 500 places) (take 500 hints) ∷ parts version n (drop 500 places) (drop 500 hints)

-- the lists of children at these places, with the hints of their names: one, or a list of lists
unfoldable pub list_cells : HiveVersion → ℕ → List ℕ → List (List ℕ) → List (List ℕ)
list_cells version at places hints =
    if length places == 0 then []
    else if nat_lt (length places) 501 then list_text version places hints ∷ []
    else ri_text (part_places (part_count (length places)) (at + cell (4 + 4 * part_count (length places))))
    ∷ parts version (part_count (length places)) places hints

-- where trees begin that are in sequence
abbrev pub places : HiveVersion → List ℕ → ℕ → Trees → List ℕ
places version shared at none = []
places version shared at (more t ts) = at ∷ places version shared (at + size version shared t) ts

-- the four bytes for a name in the list that its key is in: of the name itself, in version 1.5 its hash
abbrev pub name_hint : HiveVersion → List ℕ → List ℕ
name_hint V3 name = hint_of (is_narrow name) name
name_hint V5 name = to_le_bytes w32 (hash_of name)

-- the hint of a key's name in the list that it is in
abbrev pub hint : HiveVersion → Tree → List ℕ
hint version t = name_hint version (head t).name

-- ---- a tree

-- the cells of a key that stands here, and of all below it
abbrev mutual
  pub cells_of : HiveVersion → Above → ℕ → Tree → List (List ℕ)
  cells_of version up at (key h ts) =
      let first = children_place version up.security at h (count ts) in
      head_cells version up at h ts
      ++ (list_cells version (list_place version up.security at h) (places version h.security first ts) (map (hint version) (listed ts))
      ++ cells_of_all version (below up at h) first ts)

  -- the cells of keys in sequence, each with all below it, from here on
  pub cells_of_all : HiveVersion → Above → ℕ → Trees → List (List ℕ)
  cells_of_all version up at none = []
  cells_of_all version up at (more t ts) = cells_of version up at t ++ cells_of_all version up (at + size version up.security t) ts

-- the cells of a packed tree, from the place of the root on, which is after the bin's header
abbrev pub packed_cells : HiveVersion → Tree → List (List ℕ)
packed_cells version t = cells_of version (top (ring version [] 32 t)) 32 t

-- ---- the bins data

-- how many bytes the bin has up to the end of the last cell in use
abbrev pub whole : HiveVersion → Tree → ℕ
whole version t = 32 + size version [] t

-- up to a multiple of 4096 bytes (regf format, Hive bin header)
abbrev pub rounded : ℕ → ℕ
rounded n = (n + 4095) / 4096 * 4096

-- a free cell of that many bytes, if there are any
abbrev pub free_cells : ℕ → List Cell
free_cells n = if n == 0 then [] else record { allocated = false; payload = replicate (n - 4) 0 } ∷ []

-- the one bin: all cells of the tree, and a free cell that fills it
unfoldable pub packed_bins : HiveVersion → Tree → List Bin
packed_bins version t =
    record {
      ignored = replicate 20 0;
      cells = map allocated_cell (packed_cells version t) ++ free_cells (rounded (whole version t) - whole version t);
    }
    ∷ []

-- the packed form: the bytes of that bin
unfoldable pub packed : HiveVersion → Tree → List ℕ
packed version t = spelled 0 (packed_bins version t)
