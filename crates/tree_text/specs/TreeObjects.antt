-- What does `show` say of a registry tree as objects of JSON? (this project's own; JSON is RFC 8259)
--
-- The lines are those of the text, in the same order. The root has level 0, and a value has the level of its key.
use Rattle.std.specs.Prelude.{ℕ, ◌+◌, List, [], ◌∷◌, ◌++◌, map, length, codes}
use Rattle.std.specs.List.{flat_map}
use Rattle.hex.specs.Hex.{encode_lower}
use Rattle.nt_bytes.specs.Counts.{capped}
use Rattle.hive_model.specs.Tree.{Item, Tree, Trees, key, none, more}
use Rattle.report_text.specs.line_text.Objects.{Value, Number, Text, object_text}
use Rattle.report_text.specs.declared.line_text.form.ReportForm.{ReportForm}
use Rattle.report_text.specs.declared.line_text.form.ReportForm.TheVariants as forms
use Rattle.tree_text.specs.TreeText.{shown_text}

-- ---- lines

-- what a line says
pub data TreeLine : Type 0 where
  -- the hive: its sequence number, and the bulk of its tree in bytes
  HiveLine : ℕ → ℕ → TreeLine
  -- a key, by its level and its name
  KeyLine : ℕ → List ℕ → TreeLine
  -- a value, by the level of its key
  ValueLine : ℕ → Item → TreeLine

-- the fields of a value's type and data; data are lower-case hexadecimal
abbrev pub data_fields : ℕ → List ℕ → List (List ℕ × Value)
data_fields kind bytes =
    (codes "type", Number kind) ∷ (codes "length", Number (length bytes)) ∷ (codes "data", Text (encode_lower bytes)) ∷ []

-- the fields of a value of a key of this level
abbrev pub value_fields : ℕ → Item → List (List ℕ × Value)
value_fields level v = (codes "level", Number level) ∷ (codes "name", Text v.name) ∷ data_fields v.kind v.bytes

-- a line as an object
abbrev pub line_json : TreeLine → List ℕ
line_json (HiveLine sequence bulk) = object_text (codes "tree") ((codes "sequence", Number sequence) ∷ (codes "bulk", Number bulk) ∷ [])
line_json (KeyLine level name) = object_text (codes "key") ((codes "level", Number level) ∷ (codes "name", Text name) ∷ [])
line_json (ValueLine level v) = object_text (codes "value") (value_fields level v)

-- lines as objects, in sequence
abbrev pub lines_json : List TreeLine → List ℕ
lines_json lines = flat_map line_json lines

-- ---- the lines of a tree

-- the level of the children of a key; the cap is far past any level that a hive has
abbrev pub level_below : ℕ → ℕ
level_below level = capped (level + 1)

-- the values of a key of this level
unfoldable pub value_lines : ℕ → List Item → List TreeLine
value_lines level values = map (ValueLine level) values

-- a key, its values and its children
abbrev mutual
  pub key_lines : ℕ → Tree → List TreeLine
  key_lines level (key h ts) = KeyLine level h.name ∷ value_lines level h.values ++ keys_lines (level_below level) ts

  -- children, in sequence
  pub keys_lines : ℕ → Trees → List TreeLine
  keys_lines level none = []
  keys_lines level (more t ts) = key_lines level t ++ keys_lines level ts

-- a hive: its sequence number, the bulk of its tree in bytes, and the tree
abbrev pub shown_lines : ℕ → ℕ → Tree → List TreeLine
shown_lines sequence bulk root = HiveLine sequence bulk ∷ key_lines 0 root

-- ---- what `show` says

-- what is printed for a hive in one of the two forms
abbrev pub shown_in : ReportForm → ℕ → ℕ → Tree → List ℕ
shown_in forms.Text sequence bulk root = shown_text sequence bulk root
shown_in forms.Json sequence bulk root = lines_json (shown_lines sequence bulk root)
