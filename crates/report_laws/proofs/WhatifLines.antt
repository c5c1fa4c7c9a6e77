-- The lines of `whatif`, read from their objects.
use Rattle.std.proofs.Common.{◌≡◌, List, map, refl}
use Rattle.report_text.specs.declared.line_text.form.ReportForm.{ReportForm}
use Rattle.report_text.specs.declared.line_text.form.ReportForm.TheVariants as forms
use Rattle.json_laws.specs.Reports as reports
use Rattle.json_laws.specs.Reports.{IsRead, IsReport}
use Rattle.json_laws.proofs.ReportLemmas.{report_of_lines}
use Rattle.failure_effects.specs.declared.lines.EffectLine.{EffectLine}
use Rattle.failure_effects.specs.declared.lines.EffectLine.TheVariants as lines
use Rattle.check_text.specs.whatif_text.Lines.{printed, printed_lines}
use Rattle.report_laws.specs.report_json_laws.Whatif.{said_of, whatif_reader}

whole : (form : ReportForm) (line : EffectLine) → printed form line ≡ reports.printed form (said_of line)
whole forms.Text line = refl
whole forms.Json lines.Start = refl
whole forms.Json (lines.Set number on_good) = refl
whole forms.Json (lines.Verdict verdict) = refl
whole forms.Json (lines.Of state name) = refl
whole forms.Json (lines.Fail judgement lost name) = refl
whole forms.Json (lines.Off lost name) = refl
whole forms.Json (lines.Unmet name) = refl
whole forms.Json (lines.Untaken name) = refl
whole forms.Json (lines.Leans steps by state name) = refl
whole forms.Json lines.End = refl

read : (line : EffectLine) → IsRead whatif_reader (said_of line)
read lines.Start = record { words = refl; back = refl }
read (lines.Set number on_good) = record { words = refl; back = refl }
read (lines.Verdict verdict) = record { words = refl; back = refl }
read (lines.Of state name) = record { words = refl; back = refl }
read (lines.Fail judgement lost name) = record { words = refl; back = refl }
read (lines.Off lost name) = record { words = refl; back = refl }
read (lines.Unmet name) = record { words = refl; back = refl }
read (lines.Untaken name) = record { words = refl; back = refl }
read (lines.Leans steps by state name) = record { words = refl; back = refl }
read lines.End = record { words = refl; back = refl }

pub whatif_report : (said : List EffectLine)
    → IsReport whatif_reader (λ form. printed_lines form said) (map said_of said)
whatif_report said = report_of_lines printed said_of whatif_reader whole read said
