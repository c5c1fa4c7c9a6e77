-- The lines of `replay`, read from their objects.
use Rattle.std.proofs.Common.{◌≡◌, List, map, refl}
use Rattle.report_text.specs.declared.line_text.form.ReportForm.{ReportForm}
use Rattle.report_text.specs.declared.line_text.form.ReportForm.TheVariants as forms
use Rattle.json_laws.specs.Reports as reports
use Rattle.json_laws.specs.Reports.{IsRead, IsReport}
use Rattle.json_laws.proofs.ReportLemmas.{report_of_lines}
use Rattle.log_replay.specs.declared.line.ReplayLine.{ReplayLine}
use Rattle.log_replay.specs.declared.line.ReplayLine.TheVariants as lines
use Rattle.repair_commands.specs.replay_text.Lines.{printed, printed_lines}
use Rattle.report_laws.specs.report_json_laws.Replay.{said_of, replay_reader}

whole : (form : ReportForm) (line : ReplayLine) → printed form line ≡ reports.printed form (said_of line)
whole forms.Text line = refl
whole forms.Json line = refl

read : (line : ReplayLine) → IsRead replay_reader (said_of line)
read (lines.Sequence first second dirty) = record { words = refl; back = refl }
read (lines.EmptyLog name) = record { words = refl; back = refl }
read (lines.NoEntries name) = record { words = refl; back = refl }
read (lines.Entries name count from to) = record { words = refl; back = refl }
read (lines.OldLog name number sectors) = record { words = refl; back = refl }
read (lines.OtherStamp name number) = record { words = refl; back = refl }
read (lines.OtherNumber name number) = record { words = refl; back = refl }
read (lines.Fault kind name at) = record { words = refl; back = refl }
read (lines.Apply name number bytes) = record { words = refl; back = refl }
read (lines.Replayed applied first second) = record { words = refl; back = refl }
read (lines.Saved sequence bytes) = record { words = refl; back = refl }
read lines.SaveRefused = record { words = refl; back = refl }
read lines.End = record { words = refl; back = refl }

pub replay_report : (said : List ReplayLine)
    → IsReport replay_reader (λ form. printed_lines form said) (map said_of said)
replay_report said = report_of_lines printed said_of replay_reader whole read said
