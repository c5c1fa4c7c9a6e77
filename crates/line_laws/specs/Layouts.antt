-- What does the object of a line leave open? (this project's own)
--
-- An object has the word, the keys and the values. The layout of a line is what its text has besides: its first words, the words that the text
-- alone has, and the kind of each part. An object and a layout are one line.
use Rattle.std.specs.Prelude.{◌≡◌, ℕ, true, List, [], map}
use Rattle.std.specs.List.{AllByRecursion}
use Rattle.line_parts.specs.Pieces.{Piece}
use Rattle.line_parts.specs.Parts.{Part, Said, Number, Word, Name, Quoted, Written, Path, BootPath, Texts, Numbers, Counted, Digits, Cut, Hex, WideHex, Dword, Qword, Unless, Words, Nothing, Absent, Hidden, Bracket, BracketEnd, Records, NextRecord, RecordsEnd, NoRecords, Line, pieces_of}
use Rattle.line_laws.specs.Objects.{HasValues, has_words, object_of, told_piece}

-- a part without what its object says
abbrev pub emptied : Part → Part
emptied (Said word) = Said word
emptied (Number key n) = Number [] 0
emptied (Word key word) = Word [] []
emptied (Name key name) = Name [] []
emptied (Quoted key text) = Quoted [] []
emptied (Written key text) = Written [] []
emptied (Path key path) = Path [] []
emptied (BootPath key path) = BootPath [] []
emptied (Texts key texts) = Texts [] []
emptied (Numbers key ns) = Numbers [] []
emptied (Counted key texts) = Counted [] []
emptied (Digits key digits) = Digits [] []
emptied (Cut key digits) = Cut [] []
emptied (Hex key n) = Hex [] 0
emptied (WideHex key n) = WideHex [] 0
emptied (Dword key n) = Dword [] 0
emptied (Qword key n) = Qword [] 0
emptied (Unless key word flag) = Unless [] word true
emptied (Words key words) = Words [] []
emptied (Nothing key) = Nothing []
emptied (Absent key) = Absent []
emptied (Hidden key word) = Hidden [] []
emptied (Bracket key first word) = Bracket [] [] []
emptied BracketEnd = BracketEnd
emptied (Records key head first name) = Records [] head [] []
emptied (NextRecord head first name) = NextRecord head [] []
emptied RecordsEnd = RecordsEnd
emptied (NoRecords key) = NoRecords []

-- how the text of a line is laid out
pub record Layout : Type 0 where
  pub head : List ℕ
  pub parts : List Part

abbrev pub layout_of : Line → Layout
layout_of l = record { head = l.head; parts = map emptied l.parts }

-- what gives the layout of a line by its object
abbrev pub Layouts : Type 0
Layouts = List ℕ → List Piece → Layout

-- a line whose layout is known by its object, and whose word and keys stand between quotes as they are
pub record IsToldBy (layouts : Layouts) (l : Line) : Type 0 where
  pub words : has_words (object_of l) ≡ true
  pub laid : layouts l.word (map told_piece (pieces_of l.parts)) ≡ layout_of l

-- such are all
abbrev pub AreToldBy : Layouts → List Line → Type 0
AreToldBy layouts lines = AllByRecursion (IsToldBy layouts) lines

-- the numbers in the objects are of 64 bits, and the texts of UTF-16 units
abbrev pub HaveValues : List Line → Type 0
HaveValues lines = AllByRecursion (λ l. HasValues (object_of l)) lines
