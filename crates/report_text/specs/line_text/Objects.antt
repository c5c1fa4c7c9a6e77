-- What is a line of a report as an object of JSON? (this project's own; JSON is RFC 8259)
use Rattle.std.specs.Prelude.{ℕ, Bool, if◌then◌else◌, List, ◌++◌, codes}
use Rattle.std.specs.List.{flat_map, join_by}
use Rattle.std.specs.Fmt.{decimal}
use Rattle.report_text.specs.line_text.Quoted.{quoted, quoted_list}

-- the value of a field: a number, a text of units (a word's are its bytes), a list of either, true or false, or nothing
pub data Value : Type 0 where
  Number : ℕ → Value
  Text : List ℕ → Value
  Numbers : List ℕ → Value
  Texts : List (List ℕ) → Value
  Flag : Bool → Value
  Null : Value

-- a value: numbers are decimal, and nothing stands between the parts of a list but commas
abbrev pub value_text : Value → List ℕ
value_text (Number n) = decimal n
value_text (Text units) = quoted units
value_text (Numbers ns) = codes "[" ++ join_by decimal (codes ",") ns ++ codes "]"
value_text (Texts texts) = codes "[" ++ quoted_list texts ++ codes "]"
value_text (Flag b) = if b then codes "true" else codes "false"
value_text Null = codes "null"

-- the key of a field, after the field before it
abbrev pub key_text : List ℕ → List ℕ
key_text name = codes ",\"" ++ name ++ codes "\":"

-- a field after the one before it
abbrev pub field_text : List ℕ → Value → List ℕ
field_text name value = key_text name ++ value_text value

-- fields, each after the one before it
abbrev pub fields_text : List (List ℕ × Value) → List ℕ
fields_text fields = flat_map (λ (f : List ℕ × Value). field_text f.0 f.1) fields

-- the beginning of each object: its first field reports the line
abbrev pub opening_text : List ℕ → List ℕ
opening_text word = codes "{\"line\":\"" ++ word ++ codes "\""

-- the object of a line by its word and its further fields, with LF after it
abbrev pub object_text : List ℕ → List (List ℕ × Value) → List ℕ
object_text word fields = opening_text word ++ fields_text fields ++ codes "}\n"
