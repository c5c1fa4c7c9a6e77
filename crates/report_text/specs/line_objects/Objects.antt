-- What is each line of a start as an object of JSON? (this project's own)
use Rattle.std.specs.Prelude.{ℕ, List, [], ◌∷◌, codes}
use Rattle.std.specs.List.{flat_map}
use Rattle.report_words.specs.declared.words.TryWord.{TryWord}
use Rattle.report_words.specs.declared.words.TryWord.TheVariants as tries
use Rattle.report_words.specs.declared.line.Line.{Line}
use Rattle.report_words.specs.declared.line.Line.TheVariants as lines
use Rattle.start_model.specs.Lines.{commit_word, phase_word, event_word, refused_word, verdict_word, load_word, set_word, save_word, line_text}
use Rattle.report_text.specs.declared.line_text.form.ReportForm.{ReportForm}
use Rattle.report_text.specs.declared.line_text.form.ReportForm.TheVariants as forms
use Rattle.report_text.specs.line_text.Objects.{Value, Number, Text, object_text}

-- how an attempt went, as one word
abbrev pub outcome_word : TryWord → List ℕ
outcome_word tries.Ok = codes "ok"
outcome_word tries.Ignored = codes "ignored"
outcome_word tries.Logged = codes "logged"
outcome_word tries.FallBack = codes "fall-back"
outcome_word tries.Stop = codes "stop"

-- the fields of the line of `Select`
abbrev pub select_fields : ℕ → ℕ → ℕ → ℕ → List (List ℕ × Value)
select_fields current default failed good =
    (codes "current", Number current) ∷ (codes "default", Number default) ∷ (codes "failed", Number failed) ∷ (codes "good", Number good) ∷ []

-- a line as an object; a path of boot.ini is its bytes
abbrev pub line_json : Line → List ℕ
line_json (lines.Start number) = object_text (codes "start") ((codes "number", Number number) ∷ [])
line_json (lines.Entry number path) = object_text (codes "entry") ((codes "number", Number number) ∷ (codes "path", Text path) ∷ [])
line_json (lines.Load sequence recovered) =
    object_text (codes "load") ((codes "sequence", Number sequence) ∷ (codes "state", Text (load_word recovered)) ∷ [])
line_json (lines.Set number on_good) = object_text (codes "set") ((codes "number", Number number) ∷ (codes "by", Text (set_word on_good)) ∷ [])
line_json (lines.Commit what sequence) =
    object_text (codes "commit") ((codes "what", Text (commit_word what)) ∷ (codes "sequence", Number sequence) ∷ [])
line_json (lines.Select current default failed good) = object_text (codes "select") (select_fields current default failed good)
line_json (lines.Phase word) = object_text (codes "phase") ((codes "name", Text (phase_word word)) ∷ [])
line_json (lines.Try name outcome) = object_text (codes "try") ((codes "name", Text name) ∷ (codes "outcome", Text (outcome_word outcome)) ∷ [])
line_json (lines.Unmet name) = object_text (codes "unmet") ((codes "name", Text name) ∷ [])
line_json (lines.Vital name) = object_text (codes "vital") ((codes "name", Text name) ∷ [])
line_json lines.Logon = object_text (codes "logon") []
line_json (lines.SaveRefused full) = object_text (codes "save") ((codes "refused", Text (save_word full)) ∷ [])
line_json lines.EditOk = object_text (codes "edit") []
line_json lines.FlushNothing = object_text (codes "flush") []
line_json (lines.Refused event why) =
    object_text (codes "refused") ((codes "event", Text (event_word event)) ∷ (codes "word", Text (refused_word why)) ∷ [])
line_json (lines.Verdict word) = object_text (codes "verdict") ((codes "word", Text (verdict_word word)) ∷ [])
line_json lines.End = object_text (codes "end") []

-- a line in one of the two forms
abbrev pub printed : ReportForm → Line → List ℕ
printed forms.Text line = line_text line
printed forms.Json line = line_json line

-- lines, in sequence
abbrev pub printed_lines : ReportForm → List Line → List ℕ
printed_lines form lines = flat_map (printed form) lines
