-- The lines of `why`, read from their objects.
use Rattle.std.proofs.Common.{◌≡◌, List, map, refl}
use Rattle.report_text.specs.declared.line_text.form.ReportForm.{ReportForm}
use Rattle.report_text.specs.declared.line_text.form.ReportForm.TheVariants as forms
use Rattle.json_laws.specs.Reports as reports
use Rattle.json_laws.specs.Reports.{IsRead, IsReport}
use Rattle.json_laws.proofs.ReportLemmas.{report_of_lines}
use Rattle.answer_lines.specs.declared.why_lines.lines.GroupPlace.TheVariants as groups
use Rattle.answer_lines.specs.declared.why_lines.lines.TagPlace.TheVariants as tags
use Rattle.answer_lines.specs.declared.why_lines.lines.NameState.TheVariants as states
use Rattle.answer_lines.specs.declared.why_lines.lines.WhyLine.{WhyLine}
use Rattle.answer_lines.specs.declared.why_lines.lines.WhyLine.TheVariants as lines
use Rattle.why_text.specs.why_text.Lines.{printed, printed_lines}
use Rattle.report_laws.specs.report_json_laws.Why.{said_of, why_reader}

whole : (form : ReportForm) (line : WhyLine) → printed form line ≡ reports.printed form (said_of line)
whole forms.Text line = refl
whole forms.Json line = refl

pub read : (line : WhyLine) → IsRead why_reader (said_of line)
read lines.NoBoot = record { words = refl; back = refl }
read (lines.Start number) = record { words = refl; back = refl }
read (lines.Set number on_good) = record { words = refl; back = refl }
read (lines.Verdict verdict) = record { words = refl; back = refl }
read (lines.EndedBy name) = record { words = refl; back = refl }
read (lines.Vital name) = record { words = refl; back = refl }
read (lines.Name name) = record { words = refl; back = refl }
read (lines.Entry kind start number control) = record { words = refl; back = refl }
read (lines.Place phase place of) = record { words = refl; back = refl }
read (lines.Group (groups.Listed place) name) = record { words = refl; back = refl }
read (lines.Group groups.Unlisted name) = record { words = refl; back = refl }
read lines.NoGroup = record { words = refl; back = refl }
read (lines.Tag tag (tags.Listed place)) = record { words = refl; back = refl }
read (lines.Tag tag tags.Unlisted) = record { words = refl; back = refl }
read (lines.Tag tag tags.Idle) = record { words = refl; back = refl }
read lines.NoTag = record { words = refl; back = refl }
read (lines.Registry place) = record { words = refl; back = refl }
read (lines.After by name) = record { words = refl; back = refl }
read (lines.Before by name) = record { words = refl; back = refl }
read (lines.Pulled name) = record { words = refl; back = refl }
read lines.ReadyAtOnce = record { words = refl; back = refl }
read (lines.ReadyAfter name) = record { words = refl; back = refl }
read (lines.State states.NoPhase) = record { words = refl; back = refl }
read (lines.State (states.Started number)) = record { words = refl; back = refl }
read (lines.State (states.Failed number judgement)) = record { words = refl; back = refl }
read (lines.State states.Unmet) = record { words = refl; back = refl }
read (lines.State (states.NotReached phase)) = record { words = refl; back = refl }
read (lines.State states.Late) = record { words = refl; back = refl }
read (lines.State (states.NotTaken reason)) = record { words = refl; back = refl }
read (lines.Unmet phase name) = record { words = refl; back = refl }
read (lines.LackService state name) = record { words = refl; back = refl }
read (lines.LackGroup has_members name) = record { words = refl; back = refl }
read (lines.Member state name) = record { words = refl; back = refl }
read (lines.Cycle name) = record { words = refl; back = refl }
read lines.End = record { words = refl; back = refl }

pub why_report : (said : List WhyLine) → IsReport why_reader (λ form. printed_lines form said) (map said_of said)
unfolding printed_lines
why_report said = report_of_lines printed said_of why_reader whole read said
