-- How are the data of a value read from the fields of an object? (this project's own)
use Rattle.std.specs.Prelude.{ℕ, ◌==◌, true, false, if◌then◌else◌, List, [], ◌∷◌, ◌++◌, codes}
use Rattle.std.specs.Str.{bytes_eq}
use Rattle.std.specs.Fmt.{decimal}
use Rattle.report_text.specs.line_text.Objects.{Number, Text, Texts, Flag}
use Rattle.json_laws.specs.Reports.{Fields}
use Rattle.key_text.specs.declared.data.DataForm.TheVariants.{Dword, Qword, Strings, Ended, Unended}
use Rattle.key_text.specs.Data.{form_text}

-- a number of eight bytes has a type of its own, any other has four
abbrev pub number_text : List ℕ → ℕ → List ℕ
number_text kind n = if bytes_eq kind (codes "REG_QWORD") then form_text (Qword n) else form_text (Dword n)

-- bytes by their count and their digits
abbrev pub hex_text : ℕ → List ℕ → List ℕ
hex_text count digits = codes "hex " ++ decimal count ++ (if count == 0 then [] else codes " " ++ digits)

-- by the name of the type and the fields after it
abbrev pub data_text : List ℕ → Fields → List ℕ
data_text kind ((a, Number n) ∷ []) = number_text kind n
data_text kind ((a, Texts items) ∷ []) = form_text (Strings items)
data_text kind ((a, Text units) ∷ (b, Flag true) ∷ []) = form_text (Ended units)
data_text kind ((a, Text units) ∷ (b, Flag false) ∷ []) = form_text (Unended units)
data_text kind ((a, Number count) ∷ (b, Text digits) ∷ []) = hex_text count digits
data_text kind other = []
