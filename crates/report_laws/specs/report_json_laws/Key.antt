-- How is a line of `key` read from its object? (this project's own)
use Rattle.std.specs.Prelude.{ℕ, if◌then◌else◌, List, [], ◌∷◌, ◌++◌, codes}
use Rattle.std.specs.Str.{bytes_eq}
use Rattle.std.specs.Fmt.{decimal}
use Rattle.std.specs.Int.{w16, to_be_bytes}
use Rattle.hex.specs.Hex.{encode_lower}
use Rattle.start_model.specs.Lines.{name_text}
use Rattle.report_text.specs.line_text.Objects.{Number, Text, Texts}
use Rattle.report_text.specs.line_text.Paths.{written, written_path}
use Rattle.report_text.specs.line_text.Quoted.{quoted}
use Rattle.json_laws.specs.Reports.{Fields, Reader, Said, said}
use Rattle.key_text.specs.Data.{bytes_fields}
use Rattle.key_text.specs.Stamps.{stamp_text}
use Rattle.key_text.specs.Lines.{KeyLine, RootLine, KeyAtLine, StampLine, FlagsLine, ClassLine, ClassBytesLine, SecurityLine, ValueLine, SubkeyLine, NoKeyLine, EndLine, line_text, value_fields, refused_fields}
use Rattle.report_laws.specs.report_json_laws.Data.{data_text}

-- ---- the object of a line

abbrev pub word_of : KeyLine → List ℕ
word_of (RootLine name) = codes "root"
word_of (KeyAtLine path) = codes "key"
word_of (StampLine stamp) = codes "stamp"
word_of (FlagsLine flags) = codes "flags"
word_of (ClassLine units) = codes "class"
word_of (ClassBytesLine bytes) = codes "class"
word_of (SecurityLine bytes) = codes "security"
word_of (ValueLine v) = codes "value"
word_of (SubkeyLine name) = codes "subkey"
word_of NoKeyLine = codes "refused"
word_of EndLine = codes "end"

abbrev pub fields_of : KeyLine → Fields
fields_of (RootLine name) = (codes "name", Text name) ∷ []
fields_of (KeyAtLine path) = (codes "path", Texts path) ∷ []
fields_of (StampLine stamp) = (codes "stamp", Text (stamp_text stamp)) ∷ []
fields_of (FlagsLine flags) = (codes "flags", Number flags) ∷ []
fields_of (ClassLine units) = (codes "text", Text units) ∷ []
fields_of (ClassBytesLine bytes) = bytes_fields bytes
fields_of (SecurityLine bytes) = bytes_fields bytes
fields_of (ValueLine v) = value_fields v
fields_of (SubkeyLine name) = (codes "name", Text name) ∷ []
fields_of NoKeyLine = refused_fields
fields_of EndLine = []

abbrev pub said_of : KeyLine → Said
said_of line = said (line_text line) (word_of line) (fields_of line)

-- ---- the text of an object

abbrev pub value_text : Fields → List ℕ
value_text ((a, Text name) ∷ (b, Text kind) ∷ more) =
    codes "value " ++ quoted name ++ codes " " ++ kind ++ codes " " ++ data_text kind more ++ codes "\n"
value_text other = []

-- a name, units or a stamp
abbrev pub text_line : List ℕ → List ℕ → List ℕ
text_line word text =
    if bytes_eq word (codes "root") then codes "root " ++ written text ++ codes "\n"
    else if bytes_eq word (codes "subkey") then codes "subkey " ++ name_text text ++ codes "\n"
    else if bytes_eq word (codes "stamp") then codes "stamp " ++ text ++ codes "\n"
    else codes "class " ++ quoted text ++ codes "\n"

-- bytes by their count and their digits
abbrev pub bytes_line : List ℕ → ℕ → List ℕ → List ℕ
bytes_line word count digits =
    (if bytes_eq word (codes "class") then codes "class hex " else codes "security ") ++ (decimal count ++ codes " " ++ digits) ++ codes "\n"

abbrev pub other_text : List ℕ → Fields → List ℕ
other_text word [] = word ++ codes "\n"
other_text word ((a, Texts path) ∷ []) = codes "key " ++ written_path path ++ codes "\n"
other_text word ((a, Number flags) ∷ []) = codes "flags 0x" ++ encode_lower (to_be_bytes w16 flags) ++ codes "\n"
other_text word ((a, Text text) ∷ []) = text_line word text
other_text word ((a, Number count) ∷ (b, Text digits) ∷ []) = bytes_line word count digits
other_text word ((a, Text command) ∷ (b, Text why) ∷ []) = word ++ codes " " ++ command ++ codes " " ++ why ++ codes "\n"
other_text word other = []

abbrev pub key_reader : Reader
key_reader word fields = if bytes_eq word (codes "value") then value_text fields else other_text word fields
