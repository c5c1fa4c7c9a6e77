-- How are the lines of a check printed? (this project's own)
use Rattle.std.specs.Prelude.{ℕ, List, [], ◌∷◌, ◌++◌, codes}
use Rattle.std.specs.List.{flat_map}
use Rattle.std.specs.Fmt.{decimal}
use Rattle.start_model.specs.Lines.{name_text}
use Rattle.report_text.specs.declared.line_text.form.ReportForm.{ReportForm}
use Rattle.report_text.specs.declared.line_text.form.ReportForm.TheVariants as forms
use Rattle.report_text.specs.line_text.Objects.{Value, Number, Text, object_text}
use Rattle.report_text.specs.line_text.Quoted.{quoted}
use Rattle.answer_lines.specs.declared.check_lines.lines.SelectWord.{SelectWord}
use Rattle.answer_lines.specs.declared.check_lines.lines.SelectWord.TheVariants as words
use Rattle.answer_lines.specs.declared.check_lines.lines.Field.{Field}
use Rattle.answer_lines.specs.declared.check_lines.lines.Field.TheVariants as fields
use Rattle.answer_lines.specs.declared.check_lines.lines.Fault.{Fault}
use Rattle.answer_lines.specs.declared.check_lines.lines.Fault.TheVariants as faults
use Rattle.answer_lines.specs.declared.check_lines.lines.CheckLine.{CheckLine}
use Rattle.answer_lines.specs.declared.check_lines.lines.CheckLine.TheVariants as lines

-- ---- words

abbrev pub select_word : SelectWord → List ℕ
select_word words.Current = codes "Current"
select_word words.Default = codes "Default"
select_word words.Failed = codes "Failed"
select_word words.LastKnownGood = codes "LastKnownGood"

abbrev pub field_word : Field → List ℕ
field_word fields.Start = codes "Start"
field_word fields.Type = codes "Type"
field_word fields.ErrorControl = codes "ErrorControl"
field_word fields.Group = codes "Group"
field_word fields.Tag = codes "Tag"
field_word fields.DependOnService = codes "DependOnService"
field_word fields.DependOnGroup = codes "DependOnGroup"

-- the word of what is wrong with a child
abbrev pub fault_word : Fault → List ℕ
fault_word faults.NoStart = codes "no-start"
fault_word faults.NoType = codes "no-type"
fault_word (faults.Malformed field) = codes "malformed"
fault_word (faults.Beyond start) = codes "beyond"
fault_word (faults.Kind kind) = codes "kind"
fault_word (faults.TooEarly start) = codes "too-early"
fault_word faults.NoControl = codes "no-control"
fault_word (faults.ControlBeyond control) = codes "control-beyond"
fault_word faults.NoImage = codes "no-image"
fault_word (faults.NoService need) = codes "no-service"
fault_word (faults.Never start need) = codes "never"
fault_word (faults.Later start need) = codes "later"
fault_word (faults.NoMember group) = codes "no-member"
fault_word (faults.TagUnlisted tag group) = codes "tag-unlisted"

-- the word of a line
abbrev pub line_word : CheckLine → List ℕ
line_word (lines.Select word number) = codes "select"
line_word lines.CurrentSetKey = codes "current-set-key"
line_word (lines.Set number) = codes "set"
line_word (lines.NoSet number) = codes "no-set"
line_word lines.NoServices = codes "no-services"
line_word lines.NoList = codes "no-list"
line_word (lines.About fault name) = fault_word fault
line_word (lines.GroupUnlisted count group) = codes "group-unlisted"
line_word (lines.Cycle number name) = codes "cycle"
line_word (lines.Found count) = codes "found"
line_word lines.End = codes "end"

-- ---- texts: after the word its parts, each after a space

abbrev pub word_part : List ℕ → List ℕ
word_part word = codes " " ++ word

abbrev pub number_part : ℕ → List ℕ
number_part number = codes " " ++ decimal number

abbrev pub name_part : List ℕ → List ℕ
name_part name = codes " " ++ name_text name

abbrev pub quoted_part : List ℕ → List ℕ
quoted_part text = codes " " ++ quoted text

abbrev pub fault_parts : Fault → List ℕ
fault_parts faults.NoStart = []
fault_parts faults.NoType = []
fault_parts (faults.Malformed field) = word_part (field_word field)
fault_parts (faults.Beyond start) = number_part start
fault_parts (faults.Kind kind) = number_part kind
fault_parts (faults.TooEarly start) = number_part start
fault_parts faults.NoControl = []
fault_parts (faults.ControlBeyond control) = number_part control
fault_parts faults.NoImage = []
fault_parts (faults.NoService need) = quoted_part need
fault_parts (faults.Never start need) = number_part start ++ quoted_part need
fault_parts (faults.Later start need) = number_part start ++ quoted_part need
fault_parts (faults.NoMember group) = quoted_part group
fault_parts (faults.TagUnlisted tag group) = number_part tag ++ quoted_part group

abbrev pub line_parts : CheckLine → List ℕ
line_parts (lines.Select word number) = word_part (select_word word) ++ number_part number
line_parts lines.CurrentSetKey = []
line_parts (lines.Set number) = number_part number
line_parts (lines.NoSet number) = number_part number
line_parts lines.NoServices = []
line_parts lines.NoList = []
line_parts (lines.About fault name) = fault_parts fault ++ name_part name
line_parts (lines.GroupUnlisted count group) = number_part count ++ name_part group
line_parts (lines.Cycle number name) = number_part number ++ name_part name
line_parts (lines.Found count) = number_part count
line_parts lines.End = []

-- a line as a text
abbrev pub line_text : CheckLine → List ℕ
line_text line = line_word line ++ line_parts line ++ codes "\n"

-- ---- objects

abbrev pub Fields : Type 0
Fields = List (List ℕ × Value)

abbrev pub fault_fields : Fault → Fields
fault_fields faults.NoStart = []
fault_fields faults.NoType = []
fault_fields (faults.Malformed field) = (codes "field", Text (field_word field)) ∷ []
fault_fields (faults.Beyond start) = (codes "start", Number start) ∷ []
fault_fields (faults.Kind kind) = (codes "type", Number kind) ∷ []
fault_fields (faults.TooEarly start) = (codes "start", Number start) ∷ []
fault_fields faults.NoControl = []
fault_fields (faults.ControlBeyond control) = (codes "control", Number control) ∷ []
fault_fields faults.NoImage = []
fault_fields (faults.NoService need) = (codes "need", Text need) ∷ []
fault_fields (faults.Never start need) = (codes "start", Number start) ∷ (codes "need", Text need) ∷ []
fault_fields (faults.Later start need) = (codes "start", Number start) ∷ (codes "need", Text need) ∷ []
fault_fields (faults.NoMember group) = (codes "group", Text group) ∷ []
fault_fields (faults.TagUnlisted tag group) = (codes "tag", Number tag) ∷ (codes "group", Text group) ∷ []

abbrev pub line_fields : CheckLine → Fields
line_fields (lines.Select word number) = (codes "value", Text (select_word word)) ∷ (codes "number", Number number) ∷ []
line_fields lines.CurrentSetKey = []
line_fields (lines.Set number) = (codes "number", Number number) ∷ []
line_fields (lines.NoSet number) = (codes "number", Number number) ∷ []
line_fields lines.NoServices = []
line_fields lines.NoList = []
line_fields (lines.About fault name) = fault_fields fault ++ (codes "name", Text name) ∷ []
line_fields (lines.GroupUnlisted count group) = (codes "count", Number count) ∷ (codes "group", Text group) ∷ []
line_fields (lines.Cycle number name) = (codes "number", Number number) ∷ (codes "name", Text name) ∷ []
line_fields (lines.Found count) = (codes "count", Number count) ∷ []
line_fields lines.End = []

-- a line as an object of JSON
abbrev pub line_json : CheckLine → List ℕ
line_json line = object_text (line_word line) (line_fields line)

-- a line in a form
abbrev pub printed : ReportForm → CheckLine → List ℕ
printed forms.Text line = line_text line
printed forms.Json line = line_json line

-- lines in a form
unfoldable pub printed_lines : ReportForm → List CheckLine → List ℕ
printed_lines form said = flat_map (printed form) said
