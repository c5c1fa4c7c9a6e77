-- Which lines does `key` print? (this project's own)
use Rattle.std.specs.Prelude.{ℕ, List, [], ◌∷◌, ◌++◌, length, codes}
use Rattle.std.specs.List.{flat_map}
use Rattle.std.specs.Fmt.{decimal}
use Rattle.std.specs.Int.{w16, to_be_bytes}
use Rattle.hex.specs.Hex.{encode_lower}
use Rattle.hive_model.specs.Tree.{Item}
use Rattle.start_model.specs.Lines.{name_text}
use Rattle.report_text.specs.declared.line_text.form.ReportForm.{ReportForm}
use Rattle.report_text.specs.declared.line_text.form.ReportForm.TheVariants as forms
use Rattle.report_text.specs.line_text.Objects.{Value, Number, Text, Texts, object_text}
use Rattle.report_text.specs.line_text.Paths.{written, written_path}
use Rattle.report_text.specs.line_text.Quoted.{quoted}
use Rattle.key_text.specs.Data.{form_of, form_text, form_fields, bytes_fields}
use Rattle.key_text.specs.Kinds.{kind_text}
use Rattle.key_text.specs.Stamps.{stamp_text}

-- what a line says
pub data KeyLine : Type 0 where
  -- the root, by its name
  RootLine : List ℕ → KeyLine
  -- another key, by its path from the root down
  KeyAtLine : List (List ℕ) → KeyLine
  -- when the key was last written
  StampLine : ℕ → KeyLine
  -- the key's flags
  FlagsLine : ℕ → KeyLine
  -- its class, as units
  ClassLine : List ℕ → KeyLine
  -- a class of an odd length, as bytes
  ClassBytesLine : List ℕ → KeyLine
  -- the security descriptor
  SecurityLine : List ℕ → KeyLine
  -- a value
  ValueLine : Item → KeyLine
  -- a child, by its name
  SubkeyLine : List ℕ → KeyLine
  -- the path leads to no key
  NoKeyLine : KeyLine
  -- the last line
  EndLine : KeyLine

-- bytes after their count, which isn't 0
abbrev pub counted_text : List ℕ → List ℕ
counted_text bytes = decimal (length bytes) ++ codes " " ++ encode_lower bytes

-- a value: its name, its type and its data
unfoldable pub value_text : Item → List ℕ
value_text v = codes "value " ++ quoted v.name ++ codes " " ++ kind_text v.kind ++ codes " " ++ form_text (form_of v.kind v.bytes) ++ codes "\n"

-- a line as a text
abbrev pub line_text : KeyLine → List ℕ
line_text (RootLine name) = codes "root " ++ written name ++ codes "\n"
line_text (KeyAtLine path) = codes "key " ++ written_path path ++ codes "\n"
line_text (StampLine stamp) = codes "stamp " ++ stamp_text stamp ++ codes "\n"
line_text (FlagsLine flags) = codes "flags 0x" ++ encode_lower (to_be_bytes w16 flags) ++ codes "\n"
line_text (ClassLine units) = codes "class " ++ quoted units ++ codes "\n"
line_text (ClassBytesLine bytes) = codes "class hex " ++ counted_text bytes ++ codes "\n"
line_text (SecurityLine bytes) = codes "security " ++ counted_text bytes ++ codes "\n"
line_text (ValueLine v) = value_text v
line_text (SubkeyLine name) = codes "subkey " ++ name_text name ++ codes "\n"
line_text NoKeyLine = codes "refused key no-key\n"
line_text EndLine = codes "end\n"

-- the fields of a value
abbrev pub value_fields : Item → List (List ℕ × Value)
value_fields v = (codes "name", Text v.name) ∷ (codes "type", Text (kind_text v.kind)) ∷ form_fields (form_of v.kind v.bytes)

-- a value as an object
unfoldable pub value_json : Item → List ℕ
value_json v = object_text (codes "value") (value_fields v)

-- the fields of the answer that there is no such key
abbrev pub refused_fields : List (List ℕ × Value)
refused_fields = (codes "command", Text (codes "key")) ∷ (codes "word", Text (codes "no-key")) ∷ []

-- a line as an object of JSON
abbrev pub line_json : KeyLine → List ℕ
line_json (RootLine name) = object_text (codes "root") ((codes "name", Text name) ∷ [])
line_json (KeyAtLine path) = object_text (codes "key") ((codes "path", Texts path) ∷ [])
line_json (StampLine stamp) = object_text (codes "stamp") ((codes "stamp", Text (stamp_text stamp)) ∷ [])
line_json (FlagsLine flags) = object_text (codes "flags") ((codes "flags", Number flags) ∷ [])
line_json (ClassLine units) = object_text (codes "class") ((codes "text", Text units) ∷ [])
line_json (ClassBytesLine bytes) = object_text (codes "class") (bytes_fields bytes)
line_json (SecurityLine bytes) = object_text (codes "security") (bytes_fields bytes)
line_json (ValueLine v) = value_json v
line_json (SubkeyLine name) = object_text (codes "subkey") ((codes "name", Text name) ∷ [])
line_json NoKeyLine = object_text (codes "refused") refused_fields
line_json EndLine = object_text (codes "end") []

-- a line in one of the two forms
abbrev pub printed : ReportForm → KeyLine → List ℕ
printed forms.Text line = line_text line
printed forms.Json line = line_json line

-- lines, in sequence
abbrev pub printed_lines : ReportForm → List KeyLine → List ℕ
printed_lines form lines = flat_map (printed form) lines
