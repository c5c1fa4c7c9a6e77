-- How is a line of `diff` read from its object? (this project's own)
use Rattle.std.specs.Prelude.{ℕ, ◌||◌, nat_lt, if◌then◌else◌, List, [], ◌∷◌, ◌++◌, take, codes}
use Rattle.std.specs.Str.{bytes_eq}
use Rattle.std.specs.Fmt.{decimal}
use Rattle.report_text.specs.line_text.Quoted.{quoted}
use Rattle.report_text.specs.line_text.Objects.{Value, Number, Text, Numbers, Texts, Flag, Null}
use Rattle.json_laws.specs.Reports.{Fields, Reader, Said, said}
use Rattle.answer_lines.specs.declared.diff_lines.lines.DiffLine.{DiffLine}
use Rattle.diff_text.specs.Words.{line_word}
use Rattle.diff_text.specs.Lines.{line_text, texts_text, numbers_text, word_part, number_part, name_part, quoted_part, path_part, settings_parts}
use Rattle.diff_text.specs.Objects.{line_fields}
use Rattle.report_laws.specs.report_json_laws.Data.{hex_text, data_text}

abbrev pub said_of : DiffLine → Said
said_of line = said (line_text line) (line_word line) (line_fields line)

-- what a set has
abbrev pub shown_text : Value → List ℕ
shown_text (Number n) = decimal n
shown_text (Text text) = quoted text
shown_text (Numbers numbers) = numbers_text numbers
shown_text (Texts texts) = texts_text texts
shown_text (Flag b) = []
shown_text Null = codes "-"

abbrev pub shown_part : Value → List ℕ
shown_part value = codes " " ++ shown_text value

-- more than 32 bytes by the digits of the first ones
abbrev pub cut_hex : ℕ → List ℕ → List ℕ
cut_hex count digits =
    if nat_lt 32 count then codes "hex " ++ decimal count ++ codes " " ++ take 64 digits ++ codes ".." else hex_text count digits

abbrev pub cut_text : List ℕ → Fields → List ℕ
cut_text kind ((a, Number count) ∷ (b, Text digits) ∷ []) = cut_hex count digits
cut_text kind other = data_text kind other

-- ---- the parts of a line whose fields may be of any kind

abbrev pub only_parts : Fields → List ℕ
only_parts ((a, Text side) ∷ (b, Number start) ∷ (c, Number kind) ∷ (d, Number control) ∷ (e, image) ∷ (f, Text name) ∷ []) =
    word_part side ++ settings_parts start kind control ++ word_part (codes "image") ++ shown_part image ++ name_part name
only_parts other = []

abbrev pub differs_parts : Fields → List ℕ
differs_parts ((a, Text field) ∷ (b, first) ∷ (c, second) ∷ (d, Text name) ∷ []) =
    word_part field ++ (shown_part first ++ shown_part second) ++ name_part name
differs_parts other = []

abbrev pub tags_parts : Fields → List ℕ
tags_parts ((a, first) ∷ (b, second) ∷ (c, Text group) ∷ []) = (shown_part first ++ shown_part second) ++ name_part group
tags_parts other = []

abbrev pub order_parts : Fields → List ℕ
order_parts ((a, Number place) ∷ (b, first) ∷ (c, second) ∷ []) = number_part place ++ (shown_part first ++ shown_part second)
order_parts other = []

abbrev pub data_parts : Fields → List ℕ
data_parts ((a, Text kind) ∷ more) = codes " " ++ kind ++ codes " " ++ cut_text kind more
data_parts other = []

abbrev pub value_parts : Fields → List ℕ
value_parts ((a, Text name) ∷ (b, Texts path) ∷ []) = quoted_part name ++ path_part path
value_parts other = []

-- ---- the others

abbrev pub other_parts : Fields → List ℕ
other_parts [] = []
other_parts ((a, Number n) ∷ []) = number_part n
other_parts ((a, Text word) ∷ []) = word_part word
other_parts ((a, Text word) ∷ (b, Number n) ∷ []) = word_part word ++ number_part n
other_parts ((a, Number n) ∷ (b, Number m) ∷ []) = number_part n ++ number_part m
other_parts ((a, Text word) ∷ (b, Text name) ∷ []) = word_part word ++ name_part name
other_parts ((a, Text word) ∷ (b, Texts path) ∷ []) = word_part word ++ path_part path
other_parts ((a, Text first) ∷ (b, Text second) ∷ (c, Text name) ∷ []) = (word_part first ++ word_part second) ++ name_part name
other_parts ((a, Text side) ∷ (b, Text name) ∷ (c, Texts path) ∷ []) = word_part side ++ quoted_part name ++ path_part path
other_parts ((a, Text side) ∷ (b, Number n) ∷ (c, Texts path) ∷ []) = word_part side ++ number_part n ++ path_part path
other_parts other = []

abbrev pub parts_of : List ℕ → Fields → List ℕ
parts_of word fields =
    if bytes_eq word (codes "only") then only_parts fields
    else if bytes_eq word (codes "differs") then differs_parts fields
    else if bytes_eq word (codes "tags") then tags_parts fields
    else if bytes_eq word (codes "registry") || bytes_eq word (codes "groups") || bytes_eq word (codes "start-order") then order_parts fields
    else if bytes_eq word (codes "first") || bytes_eq word (codes "second") then data_parts fields
    else if bytes_eq word (codes "value-differs") then value_parts fields
    else other_parts fields

abbrev pub diff_reader : Reader
diff_reader word fields = word ++ parts_of word fields ++ codes "\n"
