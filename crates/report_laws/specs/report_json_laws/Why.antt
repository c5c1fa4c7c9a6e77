-- How is a line of `why` read from its object? (this project's own)
use Rattle.std.specs.Prelude.{ℕ, ◌||◌, if◌then◌else◌, List, [], ◌∷◌, ◌++◌, codes}
use Rattle.std.specs.Str.{bytes_eq}
use Rattle.report_text.specs.line_text.Objects.{Number, Text}
use Rattle.json_laws.specs.Reports.{Fields, Reader, Said, said}
use Rattle.answer_lines.specs.declared.why_lines.lines.WhyLine.{WhyLine}
use Rattle.why_text.specs.why_text.Lines.{line_text, line_word, line_fields, word_part, number_part, name_part}

abbrev pub said_of : WhyLine → Said
said_of line = said (line_text line) (line_word line) (line_fields line)

-- the one text of a line: the name of an entry, or a word
abbrev pub text_parts : List ℕ → List ℕ → List ℕ
text_parts word text =
    if bytes_eq word (codes "vital") then name_part text ++ word_part (codes "missing")
    else if bytes_eq word (codes "ended-by") || bytes_eq word (codes "name") || bytes_eq word (codes "pulled") || bytes_eq word (codes "cycle")
    then name_part text
    else word_part text

-- the second of two
abbrev pub last_part : List ℕ → List ℕ → List ℕ
last_part word text =
    if bytes_eq word (codes "state") || bytes_eq word (codes "set") || bytes_eq word (codes "tag") then word_part text else name_part text

abbrev pub entry_parts : List ℕ → ℕ → ℕ → ℕ → List ℕ
entry_parts kind start number control =
    word_part kind
    ++ word_part (codes "start") ++ number_part start
    ++ word_part (codes "type") ++ number_part number
    ++ word_part (codes "control") ++ number_part control

abbrev pub parts_of : List ℕ → Fields → List ℕ
parts_of word [] = []
parts_of word ((a, Number n) ∷ []) = number_part n
parts_of word ((a, Text t) ∷ []) = text_parts word t
parts_of word ((a, Number n) ∷ (b, Number m) ∷ []) = number_part n ++ number_part m
parts_of word ((a, Number n) ∷ (b, Text t) ∷ []) = number_part n ++ last_part word t
parts_of word ((a, Text t) ∷ (b, Number n) ∷ []) = word_part t ++ number_part n
parts_of word ((a, Text t) ∷ (b, Text u) ∷ []) = word_part t ++ last_part word u
parts_of word ((a, Text t) ∷ (b, Number n) ∷ (c, Number m) ∷ []) = word_part t ++ number_part n ++ word_part (codes "of") ++ number_part m
parts_of word ((a, Text t) ∷ (b, Number n) ∷ (c, Text u) ∷ []) = word_part t ++ number_part n ++ word_part u
parts_of word ((a, Text t) ∷ (b, Text u) ∷ (c, Text name) ∷ []) = word_part t ++ word_part u ++ name_part name
parts_of word ((a, Text kind) ∷ (b, Number start) ∷ (c, Number number) ∷ (d, Number control) ∷ []) = entry_parts kind start number control
parts_of word other = []

abbrev pub why_reader : Reader
why_reader word fields = word ++ parts_of word fields ++ codes "\n"
