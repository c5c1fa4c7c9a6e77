-- Which trees a hive can hold: names, lengths and levels as the cells of keys and values have room for.
use Rattle.std.specs.Prelude.{◌≡◌, ◌≤◌, ◌<◌, ℕ, ◌+◌, ◌/◌, ◌%◌, ◌^◌, max, false, List, length}
use Rattle.std.specs.List.{All, AllPairs, list_any}
use Rattle.nt_bytes.specs.Folding.{folds_same}
use Rattle.hive_model.specs.Tree.{Item, Head, Tree, Trees, key, none, more, head, listed}
use Rattle.nt_bytes.specs.Text.{is_backslash}

-- how many units a key's name may have (Windows Internals 4th edition, the registry)
abbrev pub longest_key_name : ℕ
longest_key_name = 255

-- how many units a value's name may have (Windows Internals 4th edition, the registry)
abbrev pub longest_value_name : ℕ
longest_value_name = 16383

-- how many bytes an edit may give a value (this project's own)
abbrev pub longest_data : ℕ
longest_data = 1048576

-- how many levels a tree may have, the root's being the first (Windows Internals 4th edition, the registry)
abbrev pub deepest_level : ℕ
deepest_level = 512

-- a value that a cell can hold (regf format, Key value: a name length of two bytes for wide names, a data size of 31 bits)
pub record IsItem (v : Item) : Type 0 where
  pub name : length v.name ≤ longest_value_name
  pub bytes : length v.bytes < 2 ^ 31

-- no two keys have names that fold to one (Windows Internals 4th edition, the registry)
abbrev pub KeysDiffer : List Tree → Type 0
KeysDiffer keys = AllPairs (λ a b. folds_same (head b).name (head a).name ≡ false) keys

-- no two values have names that fold to one (Windows Internals 4th edition, the registry)
abbrev pub ItemsDiffer : List Item → Type 0
ItemsDiffer items = AllPairs (λ (a : Item) (b : Item). folds_same b.name a.name ≡ false) items

-- a key with these children that its cell can hold (regf format, Key node; the longest name is that of the registry).
-- The flag 0x0020 says how the cell spells the name, and is no flag of the key.
pub record IsKey (h : Head) (keys : List Tree) : Type 0 where
  pub name : length h.name ≤ longest_key_name
  pub no_backslash : list_any is_backslash h.name ≡ false
  pub flags : h.flags / 32 % 2 ≡ 0
  pub class : length h.class < 2 ^ 16
  pub security : length h.security < 2 ^ 32
  pub item_count : length h.values < 2 ^ 32
  pub items : All IsItem h.values
  pub items_differ : ItemsDiffer h.values
  pub key_count : length keys < 2 ^ 32
  pub keys_named : All (λ t. 0 < length (head t).name) keys
  pub keys_differ : KeysDiffer keys

-- each key of the tree can be held (this project's own)
abbrev mutual
  pub HoldsKeys : Tree → Type 0
  HoldsKeys (key h ts) = IsKey h (listed ts) × AllHoldKeys ts

  -- each key of each of these trees can be held (this project's own)
  pub AllHoldKeys : Trees → Type 0
  AllHoldKeys none = Unit {0}
  AllHoldKeys (more t ts) = HoldsKeys t × AllHoldKeys ts

-- how many levels the tree has, that of the topmost key among them
abbrev mutual
  pub levels : Tree → ℕ
  levels (key h ts) = most_levels ts + 1

  -- the levels of the deepest of these trees, 0 where there is none
  pub most_levels : Trees → ℕ
  most_levels none = 0
  most_levels (more t ts) = max (levels t) (most_levels ts)

-- A tree that a hive can hold (regf format). That units, flags, stamps, types and bytes fit their fields is not asked: the types
-- of a program's keys and values say it.
pub record IsValid (t : Tree) : Type 0 where
  pub keys : HoldsKeys t
  pub levels : levels t ≤ deepest_level
