-- Where are the cells of a key, and how long may the bins data become by an edit in place? (this project's own; the sizes of
-- cells: regf format 1.3 and 1.5)
--
-- Which cells an edit may change (`IsInFootprint` of `Owned`) is said by these words. Which cells a step needs is judged by the trees
-- before and after it.
use Rattle.std.specs.Prelude.{ℕ, ◌+◌, ◌-◌, ◌*◌, ◌/◌, ◌%◌, ◌==◌, nat_lt, Bool, false, if◌then◌else◌, List, [], ◌∷◌, ◌++◌, length, take, find, map, flat_map, sum_by, Option, Some, option_and_then, Result, Ok, Err}
use Rattle.std.specs.List.{list_any}
use Rattle.std.specs.Option.{option_map_or}
use lib.ListN.{replicate}
use Rattle.nt_bytes.specs.Folding.{folds_same}
use Rattle.nt_bytes.specs.declared.version.HiveVersion.{HiveVersion}
use Rattle.nt_bytes.specs.declared.fault.HiveFaultKind.{HiveFaultKind}
use Rattle.hive_model.specs.Tree.{Item, Head, Tree, Trees, key, none, more, head, children, is_named, find_key, find_item}
use Rattle.hive_model.specs.Size.{cell, name_bytes, data_sizes, class_size, security_size, node_size, part_count, count}
use Rattle.hive_model.specs.Edit.{Step, set_value, delete_value, make_key, delete_key, copy_child, add_child, Refusal, has_child, after_step}
use Rattle.hive_model.specs.KeyNode.{KeyNode, key_node_at}
use Rattle.hive_model.specs.KeyValue.{key_value_at}
use Rattle.hive_model.specs.Bins.{Cells}
use Rattle.hive_model.specs.Walk.{reading, entries_at, Check, uses, tests, names_of, security_checks, entries_checks}
use Rattle.hive_model.specs.Packed.{rounded}

-- ---- steps

-- what is made of the tree after a step, or of its refusal
abbrev pub unless_refused : {A : Type 0} → A → Result Tree Refusal → (Tree → A) → A
unless_refused otherwise (Ok t) next = next t
unless_refused otherwise (Err e) next = otherwise

-- the path of a key's parent; the root's own for the root
abbrev pub parent_of : List (List ℕ) → List (List ℕ)
parent_of path = take (length path - 1) path

-- the key at a path is there and has a child of this name
abbrev pub has_key : List (List ℕ) → List ℕ → Tree → Bool
has_key parent name t = option_map_or (has_child name) (find_key parent t) false

-- ---- the cells of a key

-- what is listed of something that was read; nothing where it was not
abbrev pub of_read : {F : Type 0} → Result F HiveFaultKind → (F → List ℕ) → List ℕ
of_read (Ok x) listing = listing x
of_read (Err kind) listing = []

-- what is listed of the key node at an offset
abbrev pub of_node : Cells → ℕ → (KeyNode → List ℕ) → List ℕ
of_node cells at listing = of_read (reading key_node_at cells at) listing

-- the cells that these checks use
abbrev pub used_in : List Check → List ℕ
used_in [] = []
used_in (uses at security ∷ checks) = at ∷ used_in checks
used_in (tests at kind ∷ checks) = used_in checks

-- the cells that these checks use as security
abbrev pub security_used_in : List Check → List ℕ
security_used_in [] = []
security_used_in (uses at security ∷ checks) = if security then at ∷ security_used_in checks else security_used_in checks
security_used_in (tests at kind ∷ checks) = security_used_in checks

-- the offsets of a key's children, in order
unfoldable pub child_places : Cells → ℕ → List ℕ
child_places cells at =
    of_node cells at (λ node. if node.child_count == 0 then [] else of_read (entries_at cells node.child_list) (λ offsets. offsets))

-- the key node at an offset has this name, letters of either case taken for one
abbrev pub is_node_named : Cells → List ℕ → ℕ → Bool
is_node_named cells name at = list_any (folds_same name) (names_of (λ node. node.name) (reading key_node_at cells at))

-- the value at an offset has this name, letters of either case taken for one
abbrev pub is_value_named : Cells → List ℕ → ℕ → Bool
is_value_named cells name at = list_any (folds_same name) (names_of (λ value. value.name) (reading key_value_at cells at))

-- the offset of the key that a path from this one leads to: at each name the first child that has it, in order
abbrev pub key_place : Cells → List (List ℕ) → ℕ → Option ℕ
key_place cells [] at = Some at
key_place cells (name ∷ path) at = option_and_then (key_place cells path) (find (is_node_named cells name) (child_places cells at))

-- what is listed of the offset of the key at a path; nothing where there is none
abbrev pub of_key : Cells → ℕ → List (List ℕ) → (ℕ → List ℕ) → List ℕ
of_key cells root path listing = option_map_or listing (key_place cells path root) []

-- a key's subkey list, and the lists in it if it lists lists
unfoldable pub list_cells_at : Cells → ℕ → List ℕ
list_cells_at cells at = of_node cells at (λ node. if node.child_count == 0 then [] else used_in (entries_checks cells node.child_list))

-- the security cell that a key uses
unfoldable pub security_cell_at : Cells → ℕ → List ℕ
security_cell_at cells at = of_node cells at (λ node. used_in (security_checks cells node))

-- ---- the sizes of packed cells, one by one

-- the size of one cell; none where it is 0
abbrev pub some_cell : ℕ → List ℕ
some_cell size = if size == 0 then [] else size ∷ []

-- the sizes of a value's cell, and of those of its data
abbrev pub item_sizes : HiveVersion → Item → List ℕ
item_sizes version v = cell (20 + name_bytes v.name) ∷ map cell (data_sizes version (length v.bytes))

-- the size of the value list of that many values; none for no values
abbrev pub value_list_sizes : ℕ → List ℕ
value_list_sizes n = if n == 0 then [] else cell (4 * n) ∷ []

-- the sizes of the cells of a key but those of its lists and children, under a key with this descriptor
abbrev pub head_sizes : HiveVersion → List ℕ → Head → List ℕ
head_sizes version shared h =
    node_size h
    ∷ (some_cell (class_size h.class)
    ++ (some_cell (security_size shared h.security)
    ++ (value_list_sizes (length h.values) ++ flat_map (item_sizes version) h.values)))

-- the sizes of the lists of n children: one of at most 500, or a list of such lists, each but the last full
unfoldable pub list_sizes : ℕ → List ℕ
list_sizes n =
    if n == 0 then []
    else if nat_lt n 501 then cell (4 + 8 * n) ∷ []
    else cell (4 + 4 * part_count n) ∷ (replicate (n / 500) (cell 4004) ++ (if n % 500 == 0 then [] else cell (4 + 8 * (n % 500)) ∷ []))

-- the sizes of all cells of a key and below it, under a key with this descriptor
abbrev mutual
  pub sizes : HiveVersion → List ℕ → Tree → List ℕ
  sizes version shared (key h ts) = head_sizes version shared h ++ (list_sizes (count ts) ++ sizes_of_all version h.security ts)

  -- the sizes of all cells of keys in sequence and below them, under a key with this descriptor
  pub sizes_of_all : HiveVersion → List ℕ → Trees → List ℕ
  sizes_of_all version shared none = []
  sizes_of_all version shared (more t ts) = sizes version shared t ++ sizes_of_all version shared ts

-- ---- the room that an edit may need

-- the room for cells of these sizes: each by itself may need a new bin, with a header of 32 bytes and of whole 4096 bytes
abbrev pub room_of : List ℕ → ℕ
room_of cells = sum_by (λ size. rounded (size + 32)) cells

-- the size of the value list of the key at a path
abbrev pub value_list_sizes_in : List (List ℕ) → Tree → List ℕ
value_list_sizes_in path t = option_map_or (λ k. value_list_sizes (length (head k).values)) (find_key path t) []

-- the sizes of the cells of the value of this name of the key at a path
abbrev pub named_value_sizes_in : HiveVersion → List (List ℕ) → List ℕ → Tree → List ℕ
named_value_sizes_in version path name t =
    option_map_or (λ k. option_map_or (item_sizes version) (find_item name k) []) (find_key path t) []

-- the sizes of the lists of the key at a path
abbrev pub list_sizes_in : List (List ℕ) → Tree → List ℕ
list_sizes_in path t = option_map_or (λ k. list_sizes (length (children k))) (find_key path t) []

-- the sizes of all cells of the child of this name and below it, where the parent is at a path
abbrev pub key_sizes_in : HiveVersion → List (List ℕ) → List ℕ → Tree → List ℕ
key_sizes_in version parent name t =
    option_map_or (λ k. option_map_or (sizes version (head k).security) (find (is_named name) (children k)) []) (find_key parent t) []

-- the sizes where the key at a path got a child of this name: of the lists of the key, and of all cells of the child and below it
abbrev pub added_sizes_in : HiveVersion → List (List ℕ) → List ℕ → Tree → List ℕ
added_sizes_in version parent name t = list_sizes_in parent t ++ key_sizes_in version parent name t

-- the sizes of the packed cells that a step may need, by the tree before it and the tree after it; a value that is deleted
-- needs the value list alone, and a key that is made where one of its name is needs none
abbrev pub needed_sizes : HiveVersion → Tree → Step → Tree → List ℕ
needed_sizes version old (set_value path name kind bytes) new = value_list_sizes_in path new ++ named_value_sizes_in version path name new
needed_sizes version old (delete_value path name) new = value_list_sizes_in path new
needed_sizes version old (make_key parent name) new = if has_key parent name old then [] else added_sizes_in version parent name new
needed_sizes version old (delete_key path) new = list_sizes_in (parent_of path) new
needed_sizes version old (copy_child from to) new = added_sizes_in version [] to new
needed_sizes version old (add_child name k) new = added_sizes_in version [] name new

-- how long that many bytes of bins data may become by steps in order, the first on this tree: longer by the room for each cell
-- of each step; a refused step ends it
abbrev pub strain_of : HiveVersion → ℕ → Tree → List Step → ℕ
strain_of version bytes t [] = bytes
strain_of version bytes t (step ∷ steps) =
    unless_refused bytes (after_step step t) (λ u. strain_of version (bytes + room_of (needed_sizes version t step u)) u steps)

-- how long that many bytes of bins data may become by writing the lists of that many children: longer by the room for each list
abbrev pub list_strain_of : ℕ → ℕ → ℕ
list_strain_of bytes n = bytes + room_of (list_sizes n)
