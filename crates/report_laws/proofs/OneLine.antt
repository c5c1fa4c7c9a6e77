-- A line alone, and a line of a start under another reader.
use Rattle.std.proofs.Common.{◌≡◌, ℕ, List, [], ◌∷◌, ◌∙◌}
use Rattle.report_words.specs.declared.line.Line.{Line}
use Rattle.report_text.specs.declared.line_text.form.ReportForm.{ReportForm}
use Rattle.report_text.specs.declared.line_text.form.ReportForm.TheVariants as forms
use Rattle.report_text.specs.line_objects.Objects as objects
use Rattle.json_laws.specs.Objects.{json_of}
use Rattle.json_laws.specs.Reports.{Fields, Said, Reader, IsRead, IsReport, printed}
use Rattle.json_laws.proofs.ReportLemmas.{one}
use Rattle.report_laws.specs.report_json_laws.Starts.{said_of, start_reader, word_of}
use Rattle.report_laws.proofs.StartLines.{whole, read}

pub in_each : (line : ReportForm → List ℕ) (s : Said) → line forms.Text ≡ s.text → line forms.Json ≡ json_of s.object
    → (form : ReportForm) → line form ≡ printed form s
in_each line s text json forms.Text = text
in_each line s text json forms.Json = json

pub one_line : (reader : Reader) (line : ReportForm → List ℕ) (s : Said) → line forms.Text ≡ s.text
    → line forms.Json ≡ json_of s.object → IsRead reader s → IsReport reader line (s ∷ [])
one_line reader line s text json is_read = one reader line s (in_each line s text json) is_read

-- a reader that reads objects of this word as those of a start
pub reread : (reader : Reader) (line : Line)
    → ((fields : Fields) → reader (word_of line) fields ≡ start_reader (word_of line) fields) → IsRead reader (said_of line)
reread reader line e =
    let by_start = read line in
    record { words = by_start.words; back = e _ ∙ by_start.back }

pub start_line : (reader : Reader) (line : Line)
    → ((fields : Fields) → reader (word_of line) fields ≡ start_reader (word_of line) fields)
    → IsReport reader (λ form. objects.printed form line) (said_of line ∷ [])
start_line reader line e = one reader (λ form. objects.printed form line) (said_of line) (λ form. whole form line) (reread reader line e)
