-- What is a report in both of its forms, and what gives its text? (this project's own)
use Rattle.std.specs.Prelude.{◌≡◌, ℕ, Bool, true, ◌&&◌, List, map}
use Rattle.std.specs.List.{AllByRecursion, flat_map, list_all}
use Rattle.report_text.specs.line_text.Objects.{Value}
use Rattle.report_text.specs.declared.line_text.form.ReportForm.{ReportForm}
use Rattle.report_text.specs.declared.line_text.form.ReportForm.TheVariants as forms
use Rattle.json_laws.specs.Objects.{Object, is_word, IsValue, json_of, told_field}

abbrev pub Field : Type 0
Field = List ℕ × Value

abbrev pub Fields : Type 0
Fields = List Field

-- a line of a report: its text, and its object
pub record Said : Type 0 where
  pub text : List ℕ
  pub object : Object

abbrev pub said : List ℕ → List ℕ → Fields → Said
said text word fields = record { text = text; object = record { word = word; fields = fields } }

-- the line in one of the two forms
abbrev pub printed : ReportForm → Said → List ℕ
printed forms.Text s = s.text
printed forms.Json s = json_of s.object

-- the word of an object and the keys of its fields stand between quotes as they are
abbrev pub has_words : Object → Bool
has_words o = is_word o.word && list_all (λ (f : Field). is_word f.0) o.fields

-- the text that an object's word and fields stand for
abbrev pub Reader : Type 0
Reader = List ℕ → Fields → List ℕ

-- the reader gives the text of a line from what its object says
pub record IsRead (reader : Reader) (s : Said) : Type 0 where
  pub words : has_words s.object ≡ true
  pub back : reader s.object.word (map told_field s.object.fields) ≡ s.text

-- in either form the report is these lines, and the reader gives the text of each
pub record IsReport (reader : Reader) (report : ReportForm → List ℕ) (lines : List Said) : Type 0 where
  pub whole : (form : ReportForm) → report form ≡ flat_map (printed form) lines
  pub read : AllByRecursion (IsRead reader) lines

-- the numbers in an object are of 64 bits, and its texts of UTF-16 units
abbrev pub HasValues : Object → Type 0
HasValues o = AllByRecursion (λ (f : Field). IsValue f.1) o.fields

-- so are those of each line
abbrev pub HaveValues : List Said → Type 0
HaveValues lines = AllByRecursion (λ s. HasValues s.object) lines
