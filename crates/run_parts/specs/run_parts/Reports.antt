-- When is what was printed the report of a run, or a prefix of it, and what was done to the disk? (this project's own)
use Rattle.std.specs.Prelude.{◌≡◌, ℕ, List, [], ◌∷◌, ◌++◌, map}
use Rattle.hive_model.specs.Image.{Image, IsCrashImage}
use Rattle.nt_edge.specs.Disk.{DiskState, Wake}
use Rattle.start_model.specs.Act.{Ended}
use Rattle.run_parts.specs.run_parts.Counted.{AddsUp}
use Rattle.start_model.specs.Fits.{outcomes_of}
use Rattle.start_model.specs.Report.{Going, Report, ReportFront}
use Rattle.start_model.specs.Summary.{with_lines}
use Rattle.run_parts.specs.run_parts.Parts.{Told, Grew, tallies, tally_now}

-- whatever a loss of power leaves of the disk
abbrev pub LeftOf : DiskState → Image → Type 0
LeftOf s image = IsCrashImage s.held s.flight image

-- What was printed since is the whole report of the run on the wakes that were added, and what was done to the disk are its notes:
-- with these its counts add up, so each stop that came is reported.
pub record Reports (run : Going) (told told' : Told) (old new : DiskState) : Type 0 where
  pub text : List ℕ
  pub said_is : told'.said ≡ told.said ++ text
  pub added : List Wake
  pub report : Report run (map (λ w. w.image) added) (LeftOf new) text
  pub grew : Grew (run report.woken (outcomes_of text)).notes added old new
  pub adds_up : AddsUp (run report.woken (outcomes_of text)).notes (tallies added) (tally_now old) (tally_now new)
  pub summary : told'.summary ≡ with_lines told.summary (run report.woken (outcomes_of text)).lines

-- What was printed since is a prefix of the report, and what was done to the disk a prefix of its notes. No stop came but those that
-- are reported and the one more outcome.
pub record ReportsFront (run : Going) (said said' : List ℕ) (old new : DiskState) : Type 0 where
  pub text : List ℕ
  pub said_is : said' ≡ said ++ text
  pub added : List Wake
  pub report : ReportFront run (map (λ w. w.image) added) (LeftOf new) text
  pub grew : Grew report.notes added old new
  pub adds_up : AddsUp (report.notes ++ Ended report.outcome ∷ []) (tallies added) (tally_now old) (tally_now new)
