-- The lines of `check`, read from their objects.
use Rattle.std.proofs.Common.{◌≡◌, List, map, refl}
use Rattle.report_text.specs.declared.line_text.form.ReportForm.{ReportForm}
use Rattle.report_text.specs.declared.line_text.form.ReportForm.TheVariants as forms
use Rattle.json_laws.specs.Reports as reports
use Rattle.json_laws.specs.Reports.{IsRead, IsReport}
use Rattle.json_laws.proofs.ReportLemmas.{report_of_lines}
use Rattle.answer_lines.specs.declared.check_lines.lines.CheckLine.{CheckLine}
use Rattle.answer_lines.specs.declared.check_lines.lines.CheckLine.TheVariants as lines
use Rattle.answer_lines.specs.declared.check_lines.lines.Fault.TheVariants as faults
use Rattle.check_text.specs.check_text.Lines.{printed, printed_lines}
use Rattle.report_laws.specs.report_json_laws.Check.{said_of, check_reader}

whole : (form : ReportForm) (line : CheckLine) → printed form line ≡ reports.printed form (said_of line)
whole forms.Text line = refl
whole forms.Json line = refl

read : (line : CheckLine) → IsRead check_reader (said_of line)
read (lines.Select word number) = record { words = refl; back = refl }
read lines.CurrentSetKey = record { words = refl; back = refl }
read (lines.Set number) = record { words = refl; back = refl }
read (lines.NoSet number) = record { words = refl; back = refl }
read lines.NoServices = record { words = refl; back = refl }
read lines.NoList = record { words = refl; back = refl }
read (lines.About faults.NoStart name) = record { words = refl; back = refl }
read (lines.About faults.NoType name) = record { words = refl; back = refl }
read (lines.About (faults.Malformed field) name) = record { words = refl; back = refl }
read (lines.About (faults.Beyond start) name) = record { words = refl; back = refl }
read (lines.About (faults.Kind kind) name) = record { words = refl; back = refl }
read (lines.About (faults.TooEarly start) name) = record { words = refl; back = refl }
read (lines.About faults.NoControl name) = record { words = refl; back = refl }
read (lines.About (faults.ControlBeyond control) name) = record { words = refl; back = refl }
read (lines.About faults.NoImage name) = record { words = refl; back = refl }
read (lines.About (faults.NoService need) name) = record { words = refl; back = refl }
read (lines.About (faults.Never start need) name) = record { words = refl; back = refl }
read (lines.About (faults.Later start need) name) = record { words = refl; back = refl }
read (lines.About (faults.NoMember group) name) = record { words = refl; back = refl }
read (lines.About (faults.TagUnlisted tag group) name) = record { words = refl; back = refl }
read (lines.GroupUnlisted count group) = record { words = refl; back = refl }
read (lines.Cycle number name) = record { words = refl; back = refl }
read (lines.Found count) = record { words = refl; back = refl }
read lines.End = record { words = refl; back = refl }

pub check_report : (said : List CheckLine) → IsReport check_reader (λ form. printed_lines form said) (map said_of said)
unfolding printed_lines
check_report said = report_of_lines printed said_of check_reader whole read said
