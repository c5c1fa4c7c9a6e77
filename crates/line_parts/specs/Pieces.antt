-- What is an object of JSON made of, whose fields may be records or lists of records? (RFC 8259)
use Rattle.std.specs.Prelude.{ℕ, List, ◌++◌, codes}
use Rattle.std.specs.List.{flat_map}
use Rattle.report_text.specs.line_text.Objects.{Value, key_text, field_text}
use Rattle.report_text.specs.line_text.Quoted.{quoted}

-- a piece of an object after its first field
pub data Piece : Type 0 where
  -- a field, by its key and its value
  Field : List ℕ → Value → Piece
  -- a field whose value is a record, up to the record's first field, a text: the key, the key of this field and the text
  Opens : List ℕ → List ℕ → List ℕ → Piece
  -- the record ends
  Closes : Piece
  -- a field whose value is a list of records, up to the first field of the first one
  ListOpens : List ℕ → List ℕ → List ℕ → Piece
  -- a record of the list ends and the next one begins, up to its first field
  NextOpens : List ℕ → List ℕ → Piece
  -- the last record ends, and the list
  ListCloses : Piece

-- the beginning of a record, with its first field
abbrev pub first_field : List ℕ → List ℕ → List ℕ
first_field key text = codes "{\"" ++ key ++ codes "\":" ++ quoted text

abbrev pub piece_text : Piece → List ℕ
piece_text (Field key value) = field_text key value
piece_text (Opens key first text) = key_text key ++ first_field first text
piece_text Closes = codes "}"
piece_text (ListOpens key first text) = key_text key ++ codes "[" ++ first_field first text
piece_text (NextOpens first text) = codes "}," ++ first_field first text
piece_text ListCloses = codes "}]"

abbrev pub pieces_text : List Piece → List ℕ
pieces_text pieces = flat_map piece_text pieces
