-- Which lines does `find` print? (this project's own)
use Rattle.std.specs.Prelude.{ℕ, true, false, List, [], ◌∷◌, ◌++◌, length, map, codes, Option, Some, None}
use Rattle.hex.specs.Hex.{encode_lower}
use Rattle.key_text.specs.declared.data.DataForm.{DataForm}
use Rattle.key_text.specs.declared.data.DataForm.TheVariants as forms
use Rattle.key_text.specs.Data.{form_of}
use Rattle.key_text.specs.Kinds.{kind_text}
use Rattle.line_parts.specs.Parts.{Part, Line, line, Said, Number, Word, Quoted, Written, Path, Counted, Cut, Dword, Qword, Unless}
use Rattle.find_rule.specs.Hits.{Hit, KeyName, ValueName, Data}

-- where that is: the path of the key
abbrev pub in_path : List (List ℕ) → List Part
in_path path = Said (codes "in") ∷ Path (codes "path") path ∷ []

-- data in the form that `key` gives them; of other bytes the text has the first 32
abbrev pub form_parts : DataForm → List Part
form_parts (forms.Dword n) = Dword (codes "number") n ∷ []
form_parts (forms.Qword n) = Qword (codes "number") n ∷ []
form_parts (forms.Strings items) = Counted (codes "list") items ∷ []
form_parts (forms.Ended units) = Quoted (codes "text") units ∷ Unless (codes "ended") (codes "unended") true ∷ []
form_parts (forms.Unended units) = Quoted (codes "text") units ∷ Unless (codes "ended") (codes "unended") false ∷ []
form_parts (forms.Raw bytes) = Said (codes "hex") ∷ Number (codes "length") (length bytes) ∷ Cut (codes "hex") (encode_lower bytes) ∷ []

-- the data of a value: its name, the word of its type, its data in their form, and where that is
abbrev pub data_parts : List ℕ → List ℕ → DataForm → List (List ℕ) → List Part
data_parts name kind form path = Quoted (codes "name") name ∷ Word (codes "type") kind ∷ form_parts form ++ in_path path

-- the line of a hit: the root has no path, and is printed by its name
abbrev pub hit_line : Hit → Line
hit_line (KeyName [] name) = line (codes "root") (Written (codes "name") name ∷ [])
hit_line (KeyName (first ∷ rest) name) = line (codes "key") (Path (codes "path") (first ∷ rest) ∷ [])
hit_line (ValueName path name) = line (codes "value") (Quoted (codes "name") name ∷ in_path path)
hit_line (Data path v) = line (codes "data") (data_parts v.name (kind_text v.kind) (form_of v.kind v.bytes) path)

-- how many there were
abbrev pub found_line : ℕ → Line
found_line n = line (codes "found") (Number (codes "count") n ∷ [])

-- the path leads to no key
abbrev pub no_key_line : Line
no_key_line = line (codes "refused") (Word (codes "command") (codes "find") ∷ Word (codes "word") (codes "no-key") ∷ [])

-- the last line
abbrev pub end_line : Line
end_line = line (codes "end") []

-- the lines after those of the hits
abbrev pub closing_lines : ℕ → List Line
closing_lines n = found_line n ∷ end_line ∷ []

-- the lines where nothing is there
abbrev pub no_key_lines : List Line
no_key_lines = no_key_line ∷ end_line ∷ []

-- the whole report
abbrev pub report_lines : Option (List Hit) → List Line
report_lines None = no_key_lines
report_lines (Some found) = map hit_line found ++ closing_lines (length found)
