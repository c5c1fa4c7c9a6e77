-- Which texts, names and numbers does a key hold for Plug and Play?
--
-- REG_SZ, REG_MULTI_SZ and REG_DWORD: Microsoft's documentation of registry value types. That an empty text counts as none, and that a list of
-- names goes on after an empty one, as Plug and Play reads on: this project's own.
use Rattle.std.specs.Prelude.{ℕ, ◌==◌, if◌then◌else◌, List, [], map, filter, length, Option, Some, None, unwrap_or}
use Rattle.std.specs.List.{slice_split}
use Rattle.std.specs.Option.{option_map_or}
use Rattle.nt_bytes.specs.Text.{wide_of, is_zero, is_filled}
use Rattle.hive_model.specs.Tree.{Tree, Item, head, children, find_item, find_string, find_dword}

-- a text that isn't empty
abbrev pub filled : Option (List ℕ) → Option (List ℕ)
filled None = None
filled (Some text) = if length text == 0 then None else Some text

-- the text under a name
abbrev pub text_of : List ℕ → Tree → Option (List ℕ)
text_of name t = filled (find_string name t)

-- the first of two that is there
abbrev pub either : Option (List ℕ) → Option (List ℕ) → Option (List ℕ)
either None second = second
either (Some first) second = Some first

-- the parts between zero units that aren't empty
abbrev pub pieces_of : List ℕ → List (List ℕ)
pieces_of units = filter is_filled (slice_split is_zero units)

abbrev pub pieces_in : Item → List (List ℕ)
pieces_in v = if v.kind == 7 then pieces_of (wide_of v.bytes) else []

-- the names under a name
abbrev pub names_of : List ℕ → Tree → List (List ℕ)
names_of name t = option_map_or pieces_in (find_item name t) []

-- the number under a name, 0 where there is none
abbrev pub number_of : List ℕ → Tree → ℕ
number_of name t = unwrap_or (find_dword name t) 0

-- the children of a key, where it is there
abbrev pub children_of : Option Tree → List Tree
children_of key = option_map_or children key []

-- the names of keys
abbrev pub key_names : List Tree → List (List ℕ)
key_names keys = map (λ t. (head t).name) keys
