-- How are the lines of a comparison printed as texts? (this project's own)
use Rattle.std.specs.Prelude.{ℕ, ◌==◌, nat_lt, List, [], ◌++◌, take, length, codes, if◌then◌else◌}
use Rattle.std.specs.List.{join_by}
use Rattle.std.specs.Fmt.{decimal}
use Rattle.hex.specs.Hex.{encode_lower}
use Rattle.start_model.specs.Lines.{name_text}
use Rattle.boot_phases.specs.declared.boot_phases.phase.Phase.{Phase}
use Rattle.report_text.specs.line_text.Paths.{written_path}
use Rattle.report_text.specs.line_text.Quoted.{quoted, quoted_list}
use Rattle.key_text.specs.declared.data.DataForm.{DataForm}
use Rattle.key_text.specs.declared.data.DataForm.TheVariants.{Raw}
use Rattle.key_text.specs.Data.{form_of, form_text}
use Rattle.key_text.specs.Kinds.{kind_text}
use Rattle.answer_lines.specs.declared.diff_lines.lines.DiffLine.{DiffLine}
use Rattle.answer_lines.specs.declared.diff_lines.lines.DiffLine.TheVariants as lines
use Rattle.answer_lines.specs.declared.diff_lines.lines.Shown.{Shown}
use Rattle.answer_lines.specs.declared.diff_lines.lines.Shown.TheVariants.{Nothing, Number, Text, Texts, Numbers}
use Rattle.diff_text.specs.Words.{side_word, field_word, key_field_word, phase_word, line_word}

-- ---- what a set has

abbrev pub texts_text : List (List ℕ) → List ℕ
texts_text texts = if length texts == 0 then codes "-" else quoted_list texts

abbrev pub numbers_text : List ℕ → List ℕ
numbers_text numbers = if length numbers == 0 then codes "-" else join_by decimal (codes ",") numbers

-- where there is nothing, a minus sign stands
abbrev pub shown_text : Shown → List ℕ
shown_text Nothing = codes "-"
shown_text (Number number) = decimal number
shown_text (Text text) = quoted text
shown_text (Texts texts) = texts_text texts
shown_text (Numbers numbers) = numbers_text numbers

-- ---- data

-- the first 32 bytes of more of them
abbrev pub first_bytes : List ℕ → List ℕ
first_bytes bytes = codes "hex " ++ decimal (length bytes) ++ codes " " ++ encode_lower (take 32 bytes) ++ codes ".."

-- data in their form, but of more than 32 bytes the first ones
abbrev pub cut_text : DataForm → List ℕ
cut_text (Raw bytes) = if nat_lt 32 (length bytes) then first_bytes bytes else form_text (Raw bytes)
cut_text form = form_text form

abbrev pub data_text : ℕ → List ℕ → List ℕ
data_text kind bytes = cut_text (form_of kind bytes)

-- ---- the parts of a line, each after a space

abbrev pub word_part : List ℕ → List ℕ
word_part word = codes " " ++ word

abbrev pub number_part : ℕ → List ℕ
number_part number = codes " " ++ decimal number

abbrev pub name_part : List ℕ → List ℕ
name_part name = codes " " ++ name_text name

abbrev pub quoted_part : List ℕ → List ℕ
quoted_part text = codes " " ++ quoted text

abbrev pub path_part : List (List ℕ) → List ℕ
path_part path = codes " " ++ written_path path

abbrev pub shown_part : Shown → List ℕ
shown_part shown = codes " " ++ shown_text shown

abbrev pub data_part : ℕ → List ℕ → List ℕ
data_part kind bytes = codes " " ++ kind_text kind ++ codes " " ++ data_text kind bytes

-- what the first and the second set have
abbrev pub both_parts : Shown → Shown → List ℕ
both_parts first second = shown_part first ++ shown_part second

-- a number after its word
abbrev pub counted_part : List ℕ → ℕ → List ℕ
counted_part word number = word_part word ++ number_part number

-- Start, Type and ErrorControl
abbrev pub settings_parts : ℕ → ℕ → ℕ → List ℕ
settings_parts start kind control = counted_part (codes "start") start ++ counted_part (codes "type") kind ++ counted_part (codes "control") control

abbrev pub phases_parts : Phase → Phase → List ℕ
phases_parts first second = word_part (phase_word first) ++ word_part (phase_word second)

abbrev pub line_parts : DiffLine → List ℕ
line_parts (lines.NoSet side number) = word_part (side_word side) ++ number_part number
line_parts (lines.Sets first second) = number_part first ++ number_part second
line_parts (lines.Only side start kind control image name) =
    word_part (side_word side) ++ settings_parts start kind control ++ word_part (codes "image") ++ shown_part image ++ name_part name
line_parts (lines.Differs field first second name) = word_part (field_word field) ++ both_parts first second ++ name_part name
line_parts (lines.Parts sequence place first second) = number_part place ++ both_parts first second
line_parts (lines.Lone part side name) = word_part (side_word side) ++ name_part name
line_parts (lines.Tags first second group) = both_parts first second ++ name_part group
line_parts (lines.StartPhase first second name) = phases_parts first second ++ name_part name
line_parts lines.StartsSame = word_part (codes "same")
line_parts (lines.KeyDiffers field path) = word_part (key_field_word field) ++ path_part path
line_parts (lines.ValueDiffers name path) = quoted_part name ++ path_part path
line_parts (lines.ValueOnly side name path) = word_part (side_word side) ++ quoted_part name ++ path_part path
line_parts (lines.Data side kind bytes) = data_part kind bytes
line_parts (lines.KeyOnly side keys path) = word_part (side_word side) ++ number_part keys ++ path_part path
line_parts (lines.Stamps count) = number_part count
line_parts (lines.Flags count) = number_part count
line_parts lines.Same = []
line_parts (lines.Differ count) = number_part count
line_parts lines.End = []

-- a line as a text
abbrev pub line_text : DiffLine → List ℕ
line_text line = line_word line ++ line_parts line ++ codes "\n"
