-- What does `show` say of a registry tree? (this project's own)
--
-- A key is a line, below it stand its values and then its children, each two spaces further in. Each line ends with LF.
use Rattle.std.specs.Prelude.{ℕ, ◌==◌, if◌then◌else◌, List, [], ◌++◌, length, codes}
use Rattle.std.specs.List.{flat_map}
use Rattle.std.specs.Fmt.{decimal}
use Rattle.hex.specs.Hex.{encode_lower}
use Rattle.hive_model.specs.Tree.{Item, Tree, Trees, key, none, more}
use Rattle.start_model.specs.Lines.{name_text}

-- the margin of what is below a key
abbrev pub deeper : List ℕ → List ℕ
deeper margin = margin ++ codes "  "

-- data in lower-case hexadecimal after a space; empty data are not shown
abbrev pub data_text : List ℕ → List ℕ
data_text bytes = if length bytes == 0 then [] else codes " " ++ encode_lower bytes

-- the line of a value: its name, its type, how many bytes of data it has, and the data
unfoldable pub value_text : List ℕ → Item → List ℕ
value_text margin v =
    margin ++ codes "= " ++ name_text v.name ++ codes " " ++ decimal v.kind ++ codes " " ++ decimal (length v.bytes) ++ data_text v.bytes ++ codes "\n"

-- the lines of values
abbrev pub values_text : List ℕ → List Item → List ℕ
values_text margin values = flat_map (value_text margin) values

-- the lines of a key: its name, its values and its children
abbrev mutual
  pub key_text : List ℕ → Tree → List ℕ
  key_text margin (key h ts) = margin ++ name_text h.name ++ codes "\n" ++ values_text (deeper margin) h.values ++ keys_text (deeper margin) ts

  -- the lines of children, in sequence
  pub keys_text : List ℕ → Trees → List ℕ
  keys_text margin none = []
  keys_text margin (more t ts) = key_text margin t ++ keys_text margin ts

-- the text of a tree
abbrev pub tree_text : Tree → List ℕ
tree_text root = key_text [] root

-- the text of a hive: its sequence number, the bulk of its tree in bytes, and the tree
unfoldable pub shown_text : ℕ → ℕ → Tree → List ℕ
shown_text sequence bulk root = codes "sequence " ++ decimal sequence ++ codes " bulk " ++ decimal bulk ++ codes "\n" ++ tree_text root
