-- Registry trees: keys with their values and children, and what is found in them by name.
use Rattle.std.specs.Prelude.{ℕ, ◌+◌, Bool, true, false, ◌&&◌, ◌||◌, ◌==◌, if◌then◌else◌, List, [], ◌∷◌, length, find, bytes_eq, Option, Some, None, option_and_then}
use Rattle.std.specs.Int.{w32, from_le_bytes}
use Rattle.std.specs.Option.{option_map_or}
use Rattle.nt_bytes.specs.Folding.{folds_same}
use Rattle.nt_bytes.specs.Text.{sz_of, multi_sz_of}

-- a value: its name in UTF-16 units, its type and its data (Windows Internals 4th edition, the registry)
pub record Item : Type 0 where
  pub name : List ℕ
  pub kind : ℕ
  pub bytes : List ℕ

-- what a key has but its children: name, flags, time of the last write, class, security descriptor and values
-- (regf format, Key node)
pub record Head : Type 0 where
  pub name : List ℕ
  pub flags : ℕ
  pub stamp : ℕ
  pub class : List ℕ
  pub security : List ℕ
  pub values : List Item

-- a key, and its children in order (Windows Internals 4th edition, the registry)
mutual
  pub data Tree : Type 0 where
    key : Head → Trees → Tree

  -- the children of a key, in order
  pub data Trees : Type 0 where
    none : Trees
    more : Tree → Trees → Trees

-- a list of trees as the children of a key
abbrev pub trees : List Tree → Trees
trees [] = none
trees (t ∷ ts) = more t (trees ts)

-- the children of a key as a list
abbrev pub listed : Trees → List Tree
listed none = []
listed (more t ts) = t ∷ listed ts

-- what the topmost key has but its children
abbrev pub head : Tree → Head
head (key h ts) = h

-- the children of the topmost key, in order
abbrev pub children : Tree → List Tree
children (key h ts) = listed ts

-- ---- found by name

-- the key has this name, letters of either case taken for one (this project's own: only a to z fold)
abbrev pub is_named : List ℕ → Tree → Bool
is_named name t = folds_same name (head t).name

-- the key that a path from here leads to: at each name the first child that has it, in order
-- (Windows Internals 4th edition, the registry; which of several is this project's own)
abbrev pub find_key : List (List ℕ) → Tree → Option Tree
find_key [] t = Some t
find_key (name ∷ path) t = option_and_then (find_key path) (find (is_named name) (children t))

-- the value has this name, letters of either case taken for one (this project's own: only a to z fold)
abbrev pub is_item : List ℕ → Item → Bool
is_item name v = folds_same name v.name

-- the first value of the topmost key that has this name (Windows Internals 4th edition, the registry)
abbrev pub find_item : List ℕ → Tree → Option Item
find_item name t = find (is_item name) (head t).values

-- the number that a value of type 4 (REG_DWORD) with four bytes is (Microsoft's documentation of registry value types)
abbrev pub dword_in : Item → Option ℕ
dword_in v = if (v.kind == 4) && (length v.bytes == 4) then Some (from_le_bytes w32 v.bytes) else None

-- the number under this name in the topmost key (Microsoft's documentation of registry value types)
abbrev pub find_dword : List ℕ → Tree → Option ℕ
find_dword name t = option_and_then dword_in (find_item name t)

-- the string that a value of type 1 or 2 (REG_SZ, REG_EXPAND_SZ) is (Microsoft's documentation of registry value types)
abbrev pub string_in : Item → Option (List ℕ)
string_in v = if (v.kind == 1) || (v.kind == 2) then Some (sz_of v.bytes) else None

-- the string under this name in the topmost key (Microsoft's documentation of registry value types)
abbrev pub find_string : List ℕ → Tree → Option (List ℕ)
find_string name t = option_and_then string_in (find_item name t)

-- the strings that a value of type 7 (REG_MULTI_SZ) is (Microsoft's documentation of registry value types)
abbrev pub strings_in : Item → List (List ℕ)
strings_in v = if v.kind == 7 then multi_sz_of v.bytes else []

-- the strings under this name in the topmost key; there are none without such a value (this project's own)
abbrev pub find_strings : List ℕ → Tree → List (List ℕ)
find_strings name t = option_map_or strings_in (find_item name t) []

-- the data under this name in the topmost key; there are none without such a value (this project's own)
abbrev pub find_data : List ℕ → Tree → List ℕ
find_data name t = option_map_or (λ (v : Item). v.bytes) (find_item name t) []

-- ---- tests whether two are one (this project's own)

-- two lists of values are one
abbrev pub same_items : List Item → List Item → Bool
same_items [] [] = true
same_items [] (y ∷ ys) = false
same_items (x ∷ xs) [] = false
same_items (x ∷ xs) (y ∷ ys) = bytes_eq x.name y.name && (x.kind == y.kind) && bytes_eq x.bytes y.bytes && same_items xs ys

-- two keys are one but for their children
abbrev pub same_head : Head → Head → Bool
same_head a b =
    bytes_eq a.name b.name && (a.flags == b.flags) && (a.stamp == b.stamp)
    && bytes_eq a.class b.class && bytes_eq a.security b.security && same_items a.values b.values

-- two trees are one
abbrev mutual
  pub same_tree : Tree → Tree → Bool
  same_tree (key h ts) (key i us) = same_head h i && same_trees ts us

  -- two lists of children are one
  pub same_trees : Trees → Trees → Bool
  same_trees none none = true
  same_trees none (more u us) = false
  same_trees (more t ts) none = false
  same_trees (more t ts) (more u us) = same_tree t u && same_trees ts us

-- how many keys a tree has (this project's own)
abbrev mutual
  pub key_count : Tree → ℕ
  key_count (key h ts) = 1 + keys_count ts

  -- how many keys trees have together
  pub keys_count : Trees → ℕ
  keys_count none = 0
  keys_count (more t ts) = key_count t + keys_count ts

-- how many values a tree has (this project's own)
abbrev mutual
  pub item_count : Tree → ℕ
  item_count (key h ts) = length h.values + items_count ts

  -- how many values trees have together
  pub items_count : Trees → ℕ
  items_count none = 0
  items_count (more t ts) = item_count t + items_count ts
