-- Which of the lines that an event says does a sweep tell, and which calls follow from them? (this project's own)
use Rattle.std.specs.Prelude.{Bool, true, false, if◌then◌else◌, ℕ, List, []}
use Rattle.std.specs.List.{flat_map, list_any}
use Rattle.report_words.specs.declared.line.Line.{Line}
use Rattle.report_words.specs.declared.line.Line.TheVariants as lines
use Rattle.report_text.specs.declared.line_text.form.ReportForm.{ReportForm}
use Rattle.report_text.specs.line_objects.Objects.{printed}

-- what became of the hive, and why nothing did
abbrev pub is_told : Line → Bool
is_told (lines.Load sequence recovered) = true
is_told (lines.Commit what sequence) = true
is_told lines.FlushNothing = true
is_told (lines.SaveRefused full) = true
is_told (lines.Refused event why) = true
is_told (lines.Verdict word) = true
is_told line = false

abbrev pub told : ReportForm → Line → List ℕ
told form line = if is_told line then printed form line else []

-- a load that took the log
abbrev pub is_recovery : Line → Bool
is_recovery (lines.Load sequence recovered) = recovered
is_recovery line = false

abbrev pub is_commit : Line → Bool
is_commit (lines.Commit what sequence) = true
is_commit line = false

-- all of them
abbrev pub told_in : ReportForm → List Line → List ℕ
told_in form lines = flat_map (told form) lines

abbrev pub recovers : List Line → Bool
recovers lines = list_any is_recovery lines

abbrev pub commits : List Line → Bool
commits lines = list_any is_commit lines
