-- The lines of a start, read from their objects.
use Rattle.std.proofs.Common.{◌≡◌, List, map, refl}
use Rattle.report_text.specs.declared.line_text.form.ReportForm.{ReportForm}
use Rattle.report_text.specs.declared.line_text.form.ReportForm.TheVariants as forms
use Rattle.json_laws.specs.Reports as reports
use Rattle.json_laws.specs.Reports.{IsRead, IsReport}
use Rattle.json_laws.proofs.ReportLemmas.{report_of_lines}
use Rattle.report_words.specs.declared.words.TryWord.TheVariants as tries
use Rattle.report_words.specs.declared.line.Line.{Line}
use Rattle.report_words.specs.declared.line.Line.TheVariants as lines
use Rattle.start_model.specs.Lines.{line_text}
use Rattle.report_text.specs.line_objects.Objects.{printed, printed_lines}
use Rattle.report_laws.specs.report_json_laws.Starts.{said_of, start_reader}

pub whole : (form : ReportForm) (line : Line) → printed form line ≡ reports.printed form (said_of line)
whole forms.Text line = refl
whole forms.Json (lines.Start number) = refl
whole forms.Json (lines.Entry number path) = refl
whole forms.Json (lines.Load sequence recovered) = refl
whole forms.Json (lines.Set number on_good) = refl
whole forms.Json (lines.Commit what sequence) = refl
whole forms.Json (lines.Select current default failed good) = refl
whole forms.Json (lines.Phase word) = refl
whole forms.Json (lines.Try name outcome) = refl
whole forms.Json (lines.Unmet name) = refl
whole forms.Json (lines.Vital name) = refl
whole forms.Json lines.Logon = refl
whole forms.Json (lines.SaveRefused full) = refl
whole forms.Json lines.EditOk = refl
whole forms.Json lines.FlushNothing = refl
whole forms.Json (lines.Refused event why) = refl
whole forms.Json (lines.Verdict word) = refl
whole forms.Json lines.End = refl

pub read : (line : Line) → IsRead start_reader (said_of line)
unfolding line_text
read (lines.Start number) = record { words = refl; back = refl }
read (lines.Entry number path) = record { words = refl; back = refl }
read (lines.Load sequence recovered) = record { words = refl; back = refl }
read (lines.Set number on_good) = record { words = refl; back = refl }
read (lines.Commit what sequence) = record { words = refl; back = refl }
read (lines.Select current default failed good) = record { words = refl; back = refl }
read (lines.Phase word) = record { words = refl; back = refl }
read (lines.Try name tries.Ok) = record { words = refl; back = refl }
read (lines.Try name tries.Ignored) = record { words = refl; back = refl }
read (lines.Try name tries.Logged) = record { words = refl; back = refl }
read (lines.Try name tries.FallBack) = record { words = refl; back = refl }
read (lines.Try name tries.Stop) = record { words = refl; back = refl }
read (lines.Unmet name) = record { words = refl; back = refl }
read (lines.Vital name) = record { words = refl; back = refl }
read lines.Logon = record { words = refl; back = refl }
read (lines.SaveRefused full) = record { words = refl; back = refl }
read lines.EditOk = record { words = refl; back = refl }
read lines.FlushNothing = record { words = refl; back = refl }
read (lines.Refused event why) = record { words = refl; back = refl }
read (lines.Verdict word) = record { words = refl; back = refl }
read lines.End = record { words = refl; back = refl }

pub start_report : (said : List Line) → IsReport start_reader (λ form. printed_lines form said) (map said_of said)
start_report said = report_of_lines printed said_of start_reader whole read said
