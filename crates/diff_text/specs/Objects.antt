-- How are the lines of a comparison printed as objects of JSON, and in either form? (this project's own)
use Rattle.std.specs.Prelude.{ℕ, List, [], ◌∷◌, codes}
use Rattle.std.specs.List.{flat_map}
use Rattle.boot_phases.specs.declared.boot_phases.phase.Phase.{Phase}
use Rattle.report_text.specs.declared.line_text.form.ReportForm.{ReportForm}
use Rattle.report_text.specs.declared.line_text.form.ReportForm.TheVariants as forms
use Rattle.report_text.specs.line_text.Objects as objects
use Rattle.report_text.specs.line_text.Objects.{Value, object_text}
use Rattle.key_text.specs.Data.{form_of, form_fields}
use Rattle.key_text.specs.Kinds.{kind_text}
use Rattle.answer_lines.specs.declared.diff_lines.lines.DiffLine.{DiffLine}
use Rattle.answer_lines.specs.declared.diff_lines.lines.DiffLine.TheVariants as lines
use Rattle.answer_lines.specs.declared.diff_lines.lines.Shown.{Shown}
use Rattle.answer_lines.specs.declared.diff_lines.lines.Shown.TheVariants.{Nothing, Number, Text, Texts, Numbers}
use Rattle.answer_lines.specs.declared.diff_lines.lines.Side.{Side}
use Rattle.diff_text.specs.Words.{side_word, field_word, key_field_word, part_name, phase_word, line_word}
use Rattle.diff_text.specs.Lines.{line_text}

abbrev pub Fields : Type 0
Fields = List (List ℕ × Value)

-- what a set has; an empty list is one
abbrev pub shown_value : Shown → Value
shown_value Nothing = objects.Null
shown_value (Number number) = objects.Number number
shown_value (Text text) = objects.Text text
shown_value (Texts texts) = objects.Texts texts
shown_value (Numbers numbers) = objects.Numbers numbers

-- one field before others
abbrev pub number_field : List ℕ → ℕ → Fields → Fields
number_field name number more = (name, objects.Number number) ∷ more

abbrev pub text_field : List ℕ → List ℕ → Fields → Fields
text_field name text more = (name, objects.Text text) ∷ more

abbrev pub side_field : Side → Fields → Fields
side_field side more = text_field (codes "side") (side_word side) more

abbrev pub shown_field : List ℕ → Shown → Fields → Fields
shown_field name shown more = (name, shown_value shown) ∷ more

abbrev pub path_field : List (List ℕ) → Fields
path_field path = (codes "path", objects.Texts path) ∷ []

abbrev pub both_fields : Shown → Shown → Fields → Fields
both_fields first second more = shown_field (codes "first") first (shown_field (codes "second") second more)

-- Start, Type and ErrorControl
abbrev pub settings_fields : ℕ → ℕ → ℕ → Fields → Fields
settings_fields start kind control more =
    number_field (codes "start") start (number_field (codes "type") kind (number_field (codes "control") control more))

-- the image and the name
abbrev pub image_fields : Shown → List ℕ → Fields
image_fields image name = shown_field (codes "image") image (text_field (codes "name") name [])

abbrev pub phases_fields : Phase → Phase → Fields → Fields
phases_fields first second more = text_field (codes "first") (phase_word first) (text_field (codes "second") (phase_word second) more)

abbrev pub line_fields : DiffLine → Fields
line_fields (lines.NoSet side number) = side_field side (number_field (codes "number") number [])
line_fields (lines.Sets first second) = number_field (codes "first") first (number_field (codes "second") second [])
line_fields (lines.Only side start kind control image name) =
    side_field side (settings_fields start kind control (image_fields image name))
line_fields (lines.Differs field first second name) =
    text_field (codes "field") (field_word field) (both_fields first second (text_field (codes "name") name []))
line_fields (lines.Parts sequence place first second) = number_field (codes "place") place (both_fields first second [])
line_fields (lines.Lone part side name) = side_field side (text_field (part_name part) name [])
line_fields (lines.Tags first second group) = both_fields first second (text_field (codes "group") group [])
line_fields (lines.StartPhase first second name) = phases_fields first second (text_field (codes "name") name [])
line_fields lines.StartsSame = text_field (codes "word") (codes "same") []
line_fields (lines.KeyDiffers field path) = text_field (codes "field") (key_field_word field) (path_field path)
line_fields (lines.ValueDiffers name path) = text_field (codes "name") name (path_field path)
line_fields (lines.ValueOnly side name path) = side_field side (text_field (codes "name") name (path_field path))
line_fields (lines.Data side kind bytes) = text_field (codes "type") (kind_text kind) (form_fields (form_of kind bytes))
line_fields (lines.KeyOnly side keys path) = side_field side (number_field (codes "keys") keys (path_field path))
line_fields (lines.Stamps count) = number_field (codes "count") count []
line_fields (lines.Flags count) = number_field (codes "count") count []
line_fields lines.Same = []
line_fields (lines.Differ count) = number_field (codes "count") count []
line_fields lines.End = []

-- a line as an object of JSON
abbrev pub line_json : DiffLine → List ℕ
line_json line = object_text (line_word line) (line_fields line)

-- a line in a form
abbrev pub printed : ReportForm → DiffLine → List ℕ
printed forms.Text line = line_text line
printed forms.Json line = line_json line

-- lines in a form
unfoldable pub printed_lines : ReportForm → List DiffLine → List ℕ
printed_lines form said = flat_map (printed form) said
