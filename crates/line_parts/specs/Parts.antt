-- What is a line of a report, and how is it printed? (this project's own; JSON is RFC 8259)
--
-- A line is a word and parts. A part is a word of the text alone, or a field: its key in the object, and a value whose kind says how the text has it.
-- A field may be a record, or a list of them: such a part begins or ends one, and the parts between are the record's own.
use Rattle.std.specs.Prelude.{ℕ, ◌==◌, nat_lt, Bool, if◌then◌else◌, List, [], ◌∷◌, ◌++◌, length, take, codes}
use Rattle.std.specs.List.{flat_map, join_by}
use Rattle.std.specs.Fmt.{decimal}
use Rattle.std.specs.Int.{w16, w32, w64, to_be_bytes}
use Rattle.hex.specs.Hex.{encode_lower}
use Rattle.start_model.specs.Lines.{name_text, path_text}
use Rattle.report_text.specs.declared.line_text.form.ReportForm.{ReportForm}
use Rattle.report_text.specs.declared.line_text.form.ReportForm.TheVariants as forms
use Rattle.report_text.specs.line_text.Objects as objects
use Rattle.report_text.specs.line_text.Objects.{opening_text}
use Rattle.report_text.specs.line_text.Paths.{written, written_path}
use Rattle.report_text.specs.line_text.Quoted.{quoted, quoted_list}
use Rattle.line_parts.specs.Pieces.{Piece, Field, Opens, Closes, ListOpens, NextOpens, ListCloses, pieces_text}

-- a part of a line
pub data Part : Type 0 where
  -- a word that the text alone has
  Said : List ℕ → Part
  -- a number in decimal
  Number : List ℕ → ℕ → Part
  -- a word, as it is
  Word : List ℕ → List ℕ → Part
  -- a name, as the report of a start has it
  Name : List ℕ → List ℕ → Part
  -- a text in quotes
  Quoted : List ℕ → List ℕ → Part
  -- a text in quotes only where it cannot stand without them
  Written : List ℕ → List ℕ → Part
  -- a path by its names, written so
  Path : List ℕ → List (List ℕ) → Part
  -- a path of boot.ini by its bytes
  BootPath : List ℕ → List ℕ → Part
  -- texts in quotes with commas between them, or a minus sign
  Texts : List ℕ → List (List ℕ) → Part
  -- numbers with commas between them, or a minus sign
  Numbers : List ℕ → List ℕ → Part
  -- texts by their count, and each in quotes
  Counted : List ℕ → List (List ℕ) → Part
  -- bytes by their digits, of which the text has nothing where there is none
  Digits : List ℕ → List ℕ → Part
  -- bytes by their digits, of which the text has those of 32 bytes, and two dots where there are more
  Cut : List ℕ → List ℕ → Part
  -- a number of two bytes, and one of four, by its digits
  Hex : List ℕ → ℕ → Part
  WideHex : List ℕ → ℕ → Part
  -- a number of four bytes, and one of eight: in decimal and by its digits
  Dword : List ℕ → ℕ → Part
  Qword : List ℕ → ℕ → Part
  -- a flag, of which the text has a word where it is off, and nothing where it is on
  Unless : List ℕ → List ℕ → Bool → Part
  -- words, each after a space
  Words : List ℕ → List (List ℕ) → Part
  -- nothing there: a minus sign
  Nothing : List ℕ → Part
  -- nothing there, of which the text has nothing
  Absent : List ℕ → Part
  -- a word that the object alone has
  Hidden : List ℕ → List ℕ → Part
  -- a record begins, in the text a bracket: the key, then the key of the record's first field and its word
  Bracket : List ℕ → List ℕ → List ℕ → Part
  -- the record ends, and the bracket
  BracketEnd : Part
  -- a list of records begins: the key, then the word that the text has before each record, the key of the first field and the name that it has
  Records : List ℕ → List ℕ → List ℕ → List ℕ → Part
  -- a record of the list ends and the next one begins, so
  NextRecord : List ℕ → List ℕ → List ℕ → Part
  -- the last record ends, and the list
  RecordsEnd : Part
  -- a list without a record, of which the text has nothing
  NoRecords : List ℕ → Part

-- a line: the first words of its text, the word of its object, and what follows in both
pub record Line : Type 0 where
  pub head : List ℕ
  pub word : List ℕ
  pub parts : List Part

-- one whose text begins with its word
abbrev pub line : List ℕ → List Part → Line
line word parts = record { head = word; word = word; parts = parts }

-- ---- texts: each part after a space

abbrev pub after_space : List ℕ → List ℕ
after_space text = codes " " ++ text

abbrev pub after_space_if_some : List ℕ → List ℕ
after_space_if_some text = if length text == 0 then [] else after_space text

-- the digits of the first 32 bytes, and two dots where there are more
abbrev pub cut_digits : List ℕ → List ℕ
cut_digits digits = if nat_lt 64 (length digits) then take 64 digits ++ codes ".." else digits

abbrev pub cut_after_space : List ℕ → List ℕ
cut_after_space digits = if length digits == 0 then [] else after_space (cut_digits digits)

abbrev pub hex_digits : List ℕ → List ℕ
hex_digits bytes = codes " 0x" ++ encode_lower bytes

-- the word before a record, and its name
abbrev pub record_head : List ℕ → List ℕ → List ℕ
record_head head name = after_space head ++ after_space (name_text name)

unfoldable pub part_text : Part → List ℕ
part_text (Said word) = after_space word
part_text (Number key n) = after_space (decimal n)
part_text (Word key word) = after_space word
part_text (Name key name) = after_space (name_text name)
part_text (Quoted key text) = after_space (quoted text)
part_text (Written key text) = after_space (written text)
part_text (Path key path) = after_space (written_path path)
part_text (BootPath key path) = after_space (path_text path)
part_text (Texts key texts) = after_space (if length texts == 0 then codes "-" else quoted_list texts)
part_text (Numbers key ns) = after_space (if length ns == 0 then codes "-" else join_by decimal (codes ",") ns)
part_text (Counted key texts) = after_space (decimal (length texts)) ++ flat_map (λ t. after_space (quoted t)) texts
part_text (Digits key digits) = after_space_if_some digits
part_text (Cut key digits) = cut_after_space digits
part_text (Hex key n) = hex_digits (to_be_bytes w16 n)
part_text (WideHex key n) = hex_digits (to_be_bytes w32 n)
part_text (Dword key n) = after_space (decimal n) ++ hex_digits (to_be_bytes w32 n)
part_text (Qword key n) = after_space (decimal n) ++ hex_digits (to_be_bytes w64 n)
part_text (Unless key word flag) = if flag then [] else after_space word
part_text (Words key words) = flat_map after_space words
part_text (Nothing key) = codes " -"
part_text (Absent key) = []
part_text (Hidden key word) = []
part_text (Bracket key first word) = codes " (" ++ word
part_text BracketEnd = codes ")"
part_text (Records key head first name) = record_head head name
part_text (NextRecord head first name) = record_head head name
part_text RecordsEnd = []
part_text (NoRecords key) = []

abbrev pub line_text : Line → List ℕ
line_text l = l.head ++ flat_map part_text l.parts ++ codes "\n"

-- ---- objects

unfoldable pub part_pieces : Part → List Piece
part_pieces (Said word) = []
part_pieces (Number key n) = Field key (objects.Number n) ∷ []
part_pieces (Word key word) = Field key (objects.Text word) ∷ []
part_pieces (Name key name) = Field key (objects.Text name) ∷ []
part_pieces (Quoted key text) = Field key (objects.Text text) ∷ []
part_pieces (Written key text) = Field key (objects.Text text) ∷ []
part_pieces (Path key path) = Field key (objects.Texts path) ∷ []
part_pieces (BootPath key path) = Field key (objects.Text path) ∷ []
part_pieces (Texts key texts) = Field key (objects.Texts texts) ∷ []
part_pieces (Numbers key ns) = Field key (objects.Numbers ns) ∷ []
part_pieces (Counted key texts) = Field key (objects.Texts texts) ∷ []
part_pieces (Digits key digits) = Field key (objects.Text digits) ∷ []
part_pieces (Cut key digits) = Field key (objects.Text digits) ∷ []
part_pieces (Hex key n) = Field key (objects.Number n) ∷ []
part_pieces (WideHex key n) = Field key (objects.Number n) ∷ []
part_pieces (Dword key n) = Field key (objects.Number n) ∷ []
part_pieces (Qword key n) = Field key (objects.Number n) ∷ []
part_pieces (Unless key word flag) = Field key (objects.Flag flag) ∷ []
part_pieces (Words key words) = Field key (objects.Texts words) ∷ []
part_pieces (Nothing key) = Field key objects.Null ∷ []
part_pieces (Absent key) = Field key objects.Null ∷ []
part_pieces (Hidden key word) = Field key (objects.Text word) ∷ []
part_pieces (Bracket key first word) = Opens key first word ∷ []
part_pieces BracketEnd = Closes ∷ []
part_pieces (Records key head first name) = ListOpens key first name ∷ []
part_pieces (NextRecord head first name) = NextOpens first name ∷ []
part_pieces RecordsEnd = ListCloses ∷ []
part_pieces (NoRecords key) = Field key (objects.Texts []) ∷ []

abbrev pub pieces_of : List Part → List Piece
pieces_of parts = flat_map part_pieces parts

abbrev pub line_json : Line → List ℕ
line_json l = opening_text l.word ++ pieces_text (pieces_of l.parts) ++ codes "}\n"

-- ---- either

unfoldable pub printed : ReportForm → Line → List ℕ
printed forms.Text l = line_text l
printed forms.Json l = line_json l

abbrev pub printed_lines : ReportForm → List Line → List ℕ
printed_lines form lines = flat_map (printed form) lines
