-- How is a line of a start read from its object? (this project's own)
use Rattle.std.specs.Prelude.{ℕ, if◌then◌else◌, List, [], ◌∷◌, ◌++◌, codes}
use Rattle.std.specs.Str.{bytes_eq}
use Rattle.std.specs.Fmt.{decimal}
use Rattle.report_words.specs.declared.line.Line.{Line}
use Rattle.report_words.specs.declared.line.Line.TheVariants as lines
use Rattle.start_model.specs.Lines.{commit_word, phase_word, event_word, refused_word, verdict_word, load_word, set_word, save_word, name_text, path_text, line_text}
use Rattle.report_text.specs.line_text.Objects.{Number, Text}
use Rattle.report_text.specs.line_objects.Objects.{outcome_word, select_fields}
use Rattle.json_laws.specs.Reports.{Fields, Reader, Said, said}

-- ---- the object of a line

abbrev pub word_of : Line → List ℕ
word_of (lines.Start number) = codes "start"
word_of (lines.Entry number path) = codes "entry"
word_of (lines.Load sequence recovered) = codes "load"
word_of (lines.Set number on_good) = codes "set"
word_of (lines.Commit what sequence) = codes "commit"
word_of (lines.Select current default failed good) = codes "select"
word_of (lines.Phase word) = codes "phase"
word_of (lines.Try name outcome) = codes "try"
word_of (lines.Unmet name) = codes "unmet"
word_of (lines.Vital name) = codes "vital"
word_of lines.Logon = codes "logon"
word_of (lines.SaveRefused full) = codes "save"
word_of lines.EditOk = codes "edit"
word_of lines.FlushNothing = codes "flush"
word_of (lines.Refused event why) = codes "refused"
word_of (lines.Verdict word) = codes "verdict"
word_of lines.End = codes "end"

abbrev pub fields_of : Line → Fields
fields_of (lines.Start number) = (codes "number", Number number) ∷ []
fields_of (lines.Entry number path) = (codes "number", Number number) ∷ (codes "path", Text path) ∷ []
fields_of (lines.Load sequence recovered) = (codes "sequence", Number sequence) ∷ (codes "state", Text (load_word recovered)) ∷ []
fields_of (lines.Set number on_good) = (codes "number", Number number) ∷ (codes "by", Text (set_word on_good)) ∷ []
fields_of (lines.Commit what sequence) = (codes "what", Text (commit_word what)) ∷ (codes "sequence", Number sequence) ∷ []
fields_of (lines.Select current default failed good) = select_fields current default failed good
fields_of (lines.Phase word) = (codes "name", Text (phase_word word)) ∷ []
fields_of (lines.Try name outcome) = (codes "name", Text name) ∷ (codes "outcome", Text (outcome_word outcome)) ∷ []
fields_of (lines.Unmet name) = (codes "name", Text name) ∷ []
fields_of (lines.Vital name) = (codes "name", Text name) ∷ []
fields_of lines.Logon = []
fields_of (lines.SaveRefused full) = (codes "refused", Text (save_word full)) ∷ []
fields_of lines.EditOk = []
fields_of lines.FlushNothing = []
fields_of (lines.Refused event why) = (codes "event", Text (event_word event)) ∷ (codes "word", Text (refused_word why)) ∷ []
fields_of (lines.Verdict word) = (codes "word", Text (verdict_word word)) ∷ []
fields_of lines.End = []

abbrev pub said_of : Line → Said
said_of line = said (line_text line) (word_of line) (fields_of line)

-- ---- the text of an object

-- a line without a field
abbrev pub bare_line : List ℕ → List ℕ
bare_line word =
    if bytes_eq word (codes "edit") then codes "edit ok\n"
    else if bytes_eq word (codes "flush") then codes "flush nothing\n"
    else word ++ codes "\n"

-- a line of a word or a name
abbrev pub text_line : List ℕ → List ℕ → List ℕ
text_line word text =
    if bytes_eq word (codes "unmet") then codes "unmet " ++ name_text text ++ codes "\n"
    else if bytes_eq word (codes "vital") then codes "vital " ++ name_text text ++ codes " missing\n"
    else if bytes_eq word (codes "save") then codes "save refused " ++ text ++ codes "\n"
    else word ++ codes " " ++ text ++ codes "\n"

-- how an attempt went
abbrev pub outcome_text : List ℕ → List ℕ
outcome_text outcome = if bytes_eq outcome (codes "ok") then outcome else codes "failed " ++ outcome

-- a line of two words, or of a name and a word
abbrev pub texts_line : List ℕ → List ℕ → List ℕ → List ℕ
texts_line word text other =
    if bytes_eq word (codes "try") then codes "try " ++ name_text text ++ codes " " ++ outcome_text other ++ codes "\n"
    else word ++ codes " " ++ text ++ codes " " ++ other ++ codes "\n"

-- a line of a number and a word; a path of boot.ini is bytes
abbrev pub numbered_line : List ℕ → ℕ → List ℕ → List ℕ
numbered_line word n text =
    word ++ codes " " ++ decimal n ++ codes " " ++ (if bytes_eq word (codes "entry") then path_text text else text) ++ codes "\n"

abbrev pub start_reader : Reader
start_reader word [] = bare_line word
start_reader word ((a, Number n) ∷ []) = word ++ codes " " ++ decimal n ++ codes "\n"
start_reader word ((a, Text text) ∷ []) = text_line word text
start_reader word ((a, Text text) ∷ (b, Text other) ∷ []) = texts_line word text other
start_reader word ((a, Number n) ∷ (b, Text text) ∷ []) = numbered_line word n text
start_reader word ((a, Text what) ∷ (b, Number n) ∷ []) = word ++ codes " " ++ what ++ codes " " ++ decimal n ++ codes "\n"
start_reader word ((a, Number current) ∷ (b, Number default) ∷ (c, Number failed) ∷ (d, Number good) ∷ []) =
    word ++ codes " " ++ decimal current ++ codes " " ++ decimal default ++ codes " " ++ decimal failed ++ codes " " ++ decimal good ++ codes "\n"
start_reader word other = []
