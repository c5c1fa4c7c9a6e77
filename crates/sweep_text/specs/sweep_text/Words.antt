-- The lines of an event as texts, without LF: which of them are reported, and how? (this project's own)
--
-- The first word says which line it is, and the words after it are the fields of its object.
use Rattle.std.specs.Prelude.{ℕ, Bool, not, ◌==◌, ◌&&◌, ◌||◌, if◌then◌else◌, List, [], ◌∷◌, ◌++◌, take, drop, codes}
use Rattle.std.specs.List.{prefix_len}
use Rattle.std.specs.Str.{bytes_eq}
use Rattle.report_text.specs.declared.line_text.form.ReportForm.{ReportForm}
use Rattle.report_text.specs.declared.line_text.form.ReportForm.TheVariants as forms
use Rattle.report_text.specs.line_text.Objects.{Text, key_text, field_text, opening_text, object_text}

abbrev pub in_word : ℕ → Bool
in_word c = not (c == 32)

-- the first word
abbrev pub word_of : List ℕ → List ℕ
word_of text = take (prefix_len in_word text) text

-- what follows the space after it
abbrev pub after_word : List ℕ → List ℕ
after_word text = drop 1 (drop (prefix_len in_word text) text)

-- a field whose value is a number, by its digits
abbrev pub digits_field : List ℕ → List ℕ → List ℕ
digits_field name digits = key_text name ++ digits

-- ---- objects, by the words after the first

abbrev pub load_object : List ℕ → List ℕ
load_object words =
    opening_text (codes "load") ++ (digits_field (codes "sequence") (word_of words) ++ field_text (codes "state") (Text (after_word words))) ++ codes "}\n"

abbrev pub commit_object : List ℕ → List ℕ
commit_object words =
    opening_text (codes "commit") ++ (field_text (codes "what") (Text (word_of words)) ++ digits_field (codes "sequence") (after_word words)) ++ codes "}\n"

abbrev pub save_object : List ℕ → List ℕ
save_object words = object_text (codes "save") ((codes "refused", Text (after_word words)) ∷ [])

abbrev pub refused_object : List ℕ → List ℕ
refused_object words = object_text (codes "refused") ((codes "event", Text (word_of words)) ∷ (codes "word", Text (after_word words)) ∷ [])

abbrev pub verdict_object : List ℕ → List ℕ
verdict_object words = object_text (codes "verdict") ((codes "word", Text words) ∷ [])

-- the object of a line with this first word and these after it; none of a line that is not reported
abbrev pub object_by : List ℕ → List ℕ → List ℕ
object_by word words =
    if bytes_eq word (codes "load") then load_object words
    else if bytes_eq word (codes "commit") then commit_object words
    else if bytes_eq word (codes "flush") then object_text (codes "flush") []
    else if bytes_eq word (codes "save") then save_object words
    else if bytes_eq word (codes "refused") then refused_object words
    else if bytes_eq word (codes "verdict") then verdict_object words
    else []

-- ---- texts

abbrev pub is_told_word : List ℕ → Bool
is_told_word word =
    bytes_eq word (codes "load") || bytes_eq word (codes "commit") || bytes_eq word (codes "flush")
    || bytes_eq word (codes "save") || bytes_eq word (codes "refused") || bytes_eq word (codes "verdict")

-- ---- a line

abbrev pub told_text : ReportForm → List ℕ → List ℕ
told_text forms.Text text = if is_told_word (word_of text) then text ++ 10 ∷ [] else []
told_text forms.Json text = object_by (word_of text) (after_word text)

abbrev pub recovers_text : List ℕ → Bool
recovers_text text = bytes_eq (word_of text) (codes "load") && bytes_eq (after_word (after_word text)) (codes "recovered")

abbrev pub commits_text : List ℕ → Bool
commits_text text = bytes_eq (word_of text) (codes "commit")
