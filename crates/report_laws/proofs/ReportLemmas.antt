-- Lines, determined by their text in either form.
use Rattle.std.proofs.Common.{◌≡◌, List}
use Rattle.report_text.specs.declared.line_text.form.ReportForm.{ReportForm}
use Rattle.report_text.specs.declared.line_text.form.ReportForm.TheVariants as forms
use Rattle.key_text.specs.Lines.{KeyLine, printed_lines}
use Rattle.report_laws.specs.key_laws.Lines.{FitLines}
use Rattle.report_laws.proofs.JsonLemmas.{same_objects}
use Rattle.report_laws.proofs.LineLemmas.{same_lines}

pub same_report : (form : ReportForm) (a b : List KeyLine) → FitLines a → FitLines b
    → printed_lines form a ≡ printed_lines form b → a ≡ b
same_report forms.Text a b fits_a fits_b e = same_lines a b fits_a fits_b e
same_report forms.Json a b fits_a fits_b e = same_objects a b fits_a fits_b e
