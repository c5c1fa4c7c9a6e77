-- What does an object of a line tell, whose fields may be records? (this project's own)
use Rattle.std.specs.Prelude.{ℕ, Bool, true, ◌&&◌, List, map}
use Rattle.std.specs.List.{AllByRecursion, list_all}
use Rattle.json_laws.specs.Objects.{is_word, AreUnits, IsValue, told_value}
use Rattle.line_parts.specs.Pieces.{Piece, Field, Opens, Closes, ListOpens, NextOpens, ListCloses}
use Rattle.line_parts.specs.Parts.{Line, pieces_of}

-- the word of a line, and the pieces of its object
pub record Object : Type 0 where
  pub word : List ℕ
  pub pieces : List Piece

abbrev pub object_of : Line → Object
object_of l = record { word = l.word; pieces = pieces_of l.parts }

-- ---- what is asked of one

-- the keys of a piece stand between quotes as they are
abbrev pub has_keys : Piece → Bool
has_keys (Field key value) = is_word key
has_keys (Opens key first text) = is_word key && is_word first
has_keys Closes = true
has_keys (ListOpens key first text) = is_word key && is_word first
has_keys (NextOpens first text) = is_word first
has_keys ListCloses = true

abbrev pub has_words : Object → Bool
has_words o = is_word o.word && list_all has_keys o.pieces

-- its numbers are of 64 bits, and its texts of UTF-16 units
abbrev pub HasValue : Piece → Type 0
HasValue (Field key value) = IsValue value
HasValue (Opens key first text) = AreUnits text
HasValue Closes = Unit {0}
HasValue (ListOpens key first text) = AreUnits text
HasValue (NextOpens first text) = AreUnits text
HasValue ListCloses = Unit {0}

abbrev pub HasValues : Object → Type 0
HasValues o = AllByRecursion HasValue o.pieces

-- ---- what an object determines

-- a list without anything is one value, whether numbers or texts are left out in it
abbrev pub told_piece : Piece → Piece
told_piece (Field key value) = Field key (told_value value)
told_piece (Opens key first text) = Opens key first text
told_piece Closes = Closes
told_piece (ListOpens key first text) = ListOpens key first text
told_piece (NextOpens first text) = NextOpens first text
told_piece ListCloses = ListCloses

abbrev pub told : Object → Object
told o = record { word = o.word; pieces = map told_piece o.pieces }
