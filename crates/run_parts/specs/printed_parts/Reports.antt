-- When is what was printed, in one of the two forms, the report of a run, or a prefix of it? (this project's own)
--
-- How the operations ended is known from the report as text. Where it is printed as text, that is what was printed; where it is printed as
-- objects, these are the objects of the same lines.
use Rattle.std.specs.Prelude.{◌≡◌, ℕ, List, [], ◌∷◌, ◌++◌, map, Result, Ok, Err}
use Rattle.nt_bytes.specs.Front.{IsFront}
use Rattle.nt_edge.specs.Disk.{DiskState, Wake}
use Rattle.start_model.specs.Act.{Ended}
use Rattle.report_words.specs.declared.line.Line.{Line}
use Rattle.start_model.specs.Lines.{text_of}
use Rattle.start_model.specs.Fits.{outcomes_of}
use Rattle.start_model.specs.Report.{Going, Report, ReportFront}
use Rattle.start_model.specs.Summary.{with_lines}
use Rattle.report_text.specs.declared.line_text.form.ReportForm.{ReportForm}
use Rattle.report_text.specs.declared.line_text.form.ReportForm.TheVariants.{Text, Json}
use Rattle.report_text.specs.line_objects.Objects.{printed_lines}
use Rattle.run_parts.specs.run_parts.Counted.{AddsUp}
use Rattle.run_parts.specs.run_parts.Parts.{Grew, HasNoLineFeed, tallies, tally_now}
use Rattle.run_parts.specs.run_parts.Reports.{LeftOf}
use Rattle.run_parts.specs.printed_parts.Logged.{Chains}
use Rattle.run_parts.specs.printed_parts.Parts.{Told}

-- What was printed since are the lines of the run on the wakes that were added, whose text is the whole report; and what was done to the disk
-- are its notes: with these its counts add up, so each stop that came is reported. What its operations made of the bytes on the disk is a chain.
pub record Reports (run : Going) (told told' : Told) (old new : DiskState) : Type 0 where
  pub text : List ℕ
  pub added : List Wake
  pub report : Report run (map (λ w. w.image) added) (LeftOf new) text
  pub said_is : told'.said ≡ told.said ++ printed_lines told.form (run report.woken (outcomes_of text)).lines
  pub grew : Grew (run report.woken (outcomes_of text)).notes added old new
  pub adds_up : AddsUp (run report.woken (outcomes_of text)).notes (tallies added) (tally_now old) (tally_now new)
  pub chained : Chains run report.woken (outcomes_of text) (run report.woken (outcomes_of text)).notes (map (λ w. w.image) added) old new
  pub summary : told'.summary ≡ with_lines told.summary (run report.woken (outcomes_of text)).lines

-- the text of a line of which a part was printed: an object that was cut off has none
abbrev pub part_text : ReportForm → List ℕ → List ℕ
part_text Text part = part
part_text Json part = []

-- What was printed since are whole lines and a part of one more, without its end: a prefix of the lines of the run with one more outcome, whose
-- text is a prefix of the report. What was done to the disk is a prefix of its notes. No stop came but those that are reported and the one
-- more outcome.
pub record ReportsFront (form : ReportForm) (run : Going) (said said' : List ℕ) (old new : DiskState) : Type 0 where
  pub lines : List Line
  pub part : List ℕ
  pub said_is : said' ≡ said ++ (printed_lines form lines ++ part)
  pub cut_off : HasNoLineFeed part
  pub text : List ℕ
  pub text_is : text ≡ text_of lines ++ part_text form part
  pub added : List Wake
  pub report : ReportFront run (map (λ w. w.image) added) (LeftOf new) text
  pub front : IsFront (printed_lines form (run report.woken (outcomes_of text ++ report.outcome ∷ [])).lines) (printed_lines form lines ++ part)
  pub grew : Grew report.notes added old new
  pub adds_up : AddsUp (report.notes ++ Ended report.outcome ∷ []) (tallies added) (tally_now old) (tally_now new)

-- the report was printed whole; or up to a refusal a prefix of it
abbrev pub ReportsOr : {T E : Type 0} → Going → Told → Told → DiskState → DiskState → Result T E → Type 0
ReportsOr run told told' old new (Ok x) = Reports run told told' old new
ReportsOr run told told' old new (Err e) = ReportsFront told.form run told.said told'.said old new
