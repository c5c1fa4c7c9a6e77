-- The lines of `salvage`, read from their objects.
use Rattle.std.proofs.Common.{◌≡◌, List, map, refl}
use Rattle.report_text.specs.declared.line_text.form.ReportForm.{ReportForm}
use Rattle.report_text.specs.declared.line_text.form.ReportForm.TheVariants as forms
use Rattle.json_laws.specs.Reports as reports
use Rattle.json_laws.specs.Reports.{IsRead, IsReport}
use Rattle.json_laws.proofs.ReportLemmas.{report_of_lines}
use Rattle.salvage_walk.specs.declared.lines.WalkLine.TheVariants as lines
use Rattle.salvage_text.specs.Lines.{SalvageLine, SequenceLine, VersionLine, BaseLine, LogLine, BytesLine, WalkedLine, FoundLine, SalvagedLine, SavedLine, RefusedLine, EndLine, printed, printed_lines}
use Rattle.report_laws.specs.report_json_laws.Salvage.{said_of, salvage_reader}

whole : (form : ReportForm) (line : SalvageLine) → printed form line ≡ reports.printed form (said_of line)
whole forms.Text line = refl
whole forms.Json (SequenceLine first second state) = refl
whole forms.Json (VersionLine version) = refl
whole forms.Json (BaseLine fault) = refl
whole forms.Json (LogLine stop) = refl
whole forms.Json (BytesLine broken) = refl
whole forms.Json (WalkedLine line) = refl
whole forms.Json (FoundLine count path) = refl
whole forms.Json (SalvagedLine keys values lost) = refl
whole forms.Json (SavedLine number bytes) = refl
whole forms.Json (RefusedLine word) = refl
whole forms.Json EndLine = refl

read : (line : SalvageLine) → IsRead salvage_reader (said_of line)
read (SequenceLine first second state) = record { words = refl; back = refl }
read (VersionLine version) = record { words = refl; back = refl }
read (BaseLine fault) = record { words = refl; back = refl }
read (LogLine stop) = record { words = refl; back = refl }
read (BytesLine broken) = record { words = refl; back = refl }
read (WalkedLine (lines.Root fault)) = record { words = refl; back = refl }
read (WalkedLine (lines.RootAt at)) = record { words = refl; back = refl }
read (WalkedLine lines.NoRoot) = record { words = refl; back = refl }
read (WalkedLine (lines.Key fault path)) = record { words = refl; back = refl }
read (WalkedLine (lines.KeyAt fault i path)) = record { words = refl; back = refl }
read (WalkedLine (lines.Part fault part path)) = record { words = refl; back = refl }
read (WalkedLine (lines.Value fault name path)) = record { words = refl; back = refl }
read (WalkedLine (lines.ValueAt fault i path)) = record { words = refl; back = refl }
read (WalkedLine (lines.Nothing at path)) = record { words = refl; back = refl }
read (FoundLine count path) = record { words = refl; back = refl }
read (SalvagedLine keys values lost) = record { words = refl; back = refl }
read (SavedLine number bytes) = record { words = refl; back = refl }
read (RefusedLine word) = record { words = refl; back = refl }
read EndLine = record { words = refl; back = refl }

pub salvage_report : (said : List SalvageLine)
    → IsReport salvage_reader (λ form. printed_lines form said) (map said_of said)
salvage_report said = report_of_lines printed said_of salvage_reader whole read said
