-- How is a line of `check` read from its object? (this project's own)
use Rattle.std.specs.Prelude.{ℕ, if◌then◌else◌, List, [], ◌∷◌, ◌++◌, codes}
use Rattle.std.specs.Str.{bytes_eq}
use Rattle.report_text.specs.line_text.Objects.{Number, Text}
use Rattle.json_laws.specs.Reports.{Fields, Reader, Said, said}
use Rattle.answer_lines.specs.declared.check_lines.lines.CheckLine.{CheckLine}
use Rattle.check_text.specs.check_text.Lines.{line_text, line_word, line_fields, word_part, number_part, name_part, quoted_part}

abbrev pub said_of : CheckLine → Said
said_of line = said (line_text line) (line_word line) (line_fields line)

-- a value that is malformed is a word of its own, any other text before the name is in quotes
abbrev pub first_part : List ℕ → List ℕ → List ℕ
first_part word text = if bytes_eq word (codes "malformed") then word_part text else quoted_part text

abbrev pub parts_of : List ℕ → Fields → List ℕ
parts_of word [] = []
parts_of word ((a, Number n) ∷ []) = number_part n
parts_of word ((a, Text name) ∷ []) = name_part name
parts_of word ((a, Text t) ∷ (b, Number n) ∷ []) = word_part t ++ number_part n
parts_of word ((a, Number n) ∷ (b, Text name) ∷ []) = number_part n ++ name_part name
parts_of word ((a, Text t) ∷ (b, Text name) ∷ []) = first_part word t ++ name_part name
parts_of word ((a, Number n) ∷ (b, Text t) ∷ (c, Text name) ∷ []) = (number_part n ++ quoted_part t) ++ name_part name
parts_of word other = []

abbrev pub check_reader : Reader
check_reader word fields = word ++ parts_of word fields ++ codes "\n"
