-- The lines of `diff`, read from their objects.
use Rattle.std.proofs.Common.{◌≡◌, ℕ, List, [], ◌∷◌, ◌++◌, map, refl, ap}
use Rattle.std.specs.Prelude.{codes}
use Rattle.report_text.specs.declared.line_text.form.ReportForm.{ReportForm}
use Rattle.report_text.specs.declared.line_text.form.ReportForm.TheVariants as forms
use Rattle.json_laws.specs.Objects.{told_value}
use Rattle.json_laws.specs.Reports as reports
use Rattle.json_laws.specs.Reports.{IsRead, IsReport}
use Rattle.json_laws.proofs.ReportLemmas.{report_of_lines}
use Rattle.key_text.specs.Data.{form_of}
use Rattle.key_text.specs.Kinds.{kind_text}
use Rattle.answer_lines.specs.declared.diff_lines.lines.DiffField.{DiffField}
use Rattle.answer_lines.specs.declared.diff_lines.lines.DiffLine.{DiffLine}
use Rattle.answer_lines.specs.declared.diff_lines.lines.DiffLine.TheVariants as lines
use Rattle.answer_lines.specs.declared.diff_lines.lines.Shown.{Shown}
use Rattle.answer_lines.specs.declared.diff_lines.lines.Shown.TheVariants as shown
use Rattle.answer_lines.specs.declared.diff_lines.lines.Part.TheVariants as parts
use Rattle.answer_lines.specs.declared.diff_lines.lines.Sequence.TheVariants as sequences
use Rattle.answer_lines.specs.declared.diff_lines.lines.Side.{Side}
use Rattle.answer_lines.specs.declared.diff_lines.lines.Side.TheVariants as sides
use Rattle.diff_text.specs.Words.{side_word, field_word}
use Rattle.diff_text.specs.Lines.{word_part, number_part, name_part, settings_parts}
use Rattle.diff_text.specs.Lines as texts
use Rattle.diff_text.specs.Objects.{shown_value, printed, printed_lines}
use Rattle.report_laws.specs.report_json_laws.Diff.{said_of, shown_text, diff_reader}
use Rattle.report_laws.proofs.DataLemmas.{data_words, data_cut}

shown_read : (s : Shown) → shown_text (told_value (shown_value s)) ≡ texts.shown_text s
shown_read shown.Nothing = refl
shown_read (shown.Number n) = refl
shown_read (shown.Text text) = refl
shown_read (shown.Texts each) = refl
shown_read (shown.Numbers []) = refl
shown_read (shown.Numbers (n ∷ ns)) = refl

-- what two sets have
both_read : (first second : Shown) → (codes " " ++ shown_text (told_value (shown_value first)))
    ++ (codes " " ++ shown_text (told_value (shown_value second))) ≡ texts.both_parts first second
both_read first second = (λ i. (codes " " ++ shown_read first i) ++ (codes " " ++ shown_read second i))

whole : (form : ReportForm) (line : DiffLine) → printed form line ≡ reports.printed form (said_of line)
whole forms.Text line = refl
whole forms.Json line = refl

only_read : (side : Side) (start kind control : ℕ) (image : Shown) (name : List ℕ)
    → IsRead diff_reader (said_of (lines.Only side start kind control image name))
only_read side start kind control image name = record {
  words = refl;
  back = ap (λ (t : List ℕ). codes "only" ++ (word_part (side_word side) ++ settings_parts start kind control
      ++ word_part (codes "image") ++ (codes " " ++ t) ++ name_part name) ++ codes "\n") (shown_read image);
}

differs_read : (field : DiffField) (first second : Shown) (name : List ℕ)
    → IsRead diff_reader (said_of (lines.Differs field first second name))
differs_read field first second name = record {
  words = refl;
  back = ap (λ (t : List ℕ). codes "differs" ++ (word_part (field_word field) ++ t ++ name_part name) ++ codes "\n")
      (both_read first second);
}

tags_read : (first second : Shown) (group : List ℕ) → IsRead diff_reader (said_of (lines.Tags first second group))
tags_read first second group = record {
  words = refl;
  back = ap (λ (t : List ℕ). codes "tags" ++ (t ++ name_part group) ++ codes "\n") (both_read first second);
}

-- at a place of one of the three orders
place_text : List ℕ → ℕ → List ℕ → List ℕ
place_text word place t = word ++ (number_part place ++ t) ++ codes "\n"

first_read : (kind : ℕ) (bytes : List ℕ) → IsRead diff_reader (said_of (lines.Data sides.First kind bytes))
first_read kind bytes = record {
  words = data_words (form_of kind bytes);
  back = ap (λ (t : List ℕ). codes "first" ++ (codes " " ++ kind_text kind ++ codes " " ++ t) ++ codes "\n")
      (data_cut kind bytes);
}

second_read : (kind : ℕ) (bytes : List ℕ) → IsRead diff_reader (said_of (lines.Data sides.Second kind bytes))
second_read kind bytes = record {
  words = data_words (form_of kind bytes);
  back = ap (λ (t : List ℕ). codes "second" ++ (codes " " ++ kind_text kind ++ codes " " ++ t) ++ codes "\n")
      (data_cut kind bytes);
}

read : (line : DiffLine) → IsRead diff_reader (said_of line)
unfolding place_text
read (lines.NoSet side number) = record { words = refl; back = refl }
read (lines.Sets first second) = record { words = refl; back = refl }
read (lines.Only side start kind control image name) = only_read side start kind control image name
read (lines.Differs field first second name) = differs_read field first second name
read (lines.Parts sequences.Registry place first second) =
    record { words = refl; back = ap (place_text (codes "registry") place) (both_read first second) }
read (lines.Parts sequences.Groups place first second) =
    record { words = refl; back = ap (place_text (codes "groups") place) (both_read first second) }
read (lines.Parts sequences.Starts place first second) =
    record { words = refl; back = ap (place_text (codes "start-order") place) (both_read first second) }
read (lines.Lone parts.Group side name) = record { words = refl; back = refl }
read (lines.Lone parts.Start side name) = record { words = refl; back = refl }
read (lines.Lone parts.Unmet side name) = record { words = refl; back = refl }
read (lines.Tags first second group) = tags_read first second group
read (lines.StartPhase first second name) = record { words = refl; back = refl }
read lines.StartsSame = record { words = refl; back = refl }
read (lines.KeyDiffers field path) = record { words = refl; back = refl }
read (lines.ValueDiffers name path) = record { words = refl; back = refl }
read (lines.ValueOnly side name path) = record { words = refl; back = refl }
read (lines.Data sides.First kind bytes) = first_read kind bytes
read (lines.Data sides.Second kind bytes) = second_read kind bytes
read (lines.KeyOnly side keys path) = record { words = refl; back = refl }
read (lines.Stamps count) = record { words = refl; back = refl }
read (lines.Flags count) = record { words = refl; back = refl }
read lines.Same = record { words = refl; back = refl }
read (lines.Differ count) = record { words = refl; back = refl }
read lines.End = record { words = refl; back = refl }

pub diff_report : (said : List DiffLine) → IsReport diff_reader (λ form. printed_lines form said) (map said_of said)
unfolding printed_lines
diff_report said = report_of_lines printed said_of diff_reader whole read said
