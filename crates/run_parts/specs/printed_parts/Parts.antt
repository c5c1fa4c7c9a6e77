-- What did a part of a run amount to, and what was printed of it: of one that was played, and of one that was given up? (this project's own)
--
-- What happened beside the lines are the notes of the book. They tell what was done to the disk from outside: its wakes, the
-- stops that were ordered and the cuts of the script; and each stop that the part reports has its cause, a count of the disk
-- that rose since the start's own wake. Of a part that was played the converse holds too: each stop that came is reported. And what
-- its operations made of the bytes on the disk is a chain: after each commit the log is that commit's.
use Rattle.std.specs.Prelude.{◌≡◌, ℕ, List, [], ◌∷◌, ◌++◌, map, Result, Ok, Err}
use Rattle.nt_bytes.specs.Front.{IsFront}
use Rattle.nt_edge.specs.Disk.{DiskState, Wake}
use Rattle.nt_edge.specs.Crash.{EachCrash}
use Rattle.nt_edge.specs.Host.{SaysFront}
use Rattle.report_words.specs.declared.line.Line.{Line}
use Rattle.start_model.specs.Summary.{Summary, with_lines}
use Rattle.start_model.specs.Fits.{outcomes_in, woke_in, Fits, MayLoad}
use Rattle.start_model.specs.Possible.{Woken, Outcome}
use Rattle.start_model.specs.Act.{Act, Note, Ended}
use Rattle.start_model.specs.Run.{play, behind}
use Rattle.start_model.specs.Report.{Going}
use Rattle.report_text.specs.declared.line_text.form.ReportForm.{ReportForm}
use Rattle.report_text.specs.line_objects.Objects.{printed, printed_lines}
use Rattle.run_parts.specs.run_parts.Counted.{AddsUp}
use Rattle.run_parts.specs.run_parts.Parts.{Grew, HasNoLineFeed, tallies, tally_now}
use Rattle.run_parts.specs.printed_parts.Logged.{Chains}

-- ---- what was reported

-- what was printed so far, in which form, and what its lines came to
pub record Told : Type 0 where
  pub said : List ℕ
  pub form : ReportForm
  pub summary : Summary

-- these lines were reported after it
pub record Tells (old new : Told) (lines : List Line) : Type 0 where
  pub said : new.said ≡ old.said ++ printed_lines old.form lines
  pub form : new.form ≡ old.form
  pub summary : new.summary ≡ with_lines old.summary lines

-- ---- a part that was played

-- Of the whole this rest is left: lines were reported, the disk's history grew by notes, each wake could be, and whatever wakes and
-- outcomes follow, the whole goes on as the rest does. With the `untold` notes after its own the disk's counts add up.
pub record GoesBut (untold : List Note) (whole rest : Going) (told told' : Told) (old new : DiskState) : Type 0 where
  pub lines : List Line
  pub notes : List Note
  pub added : List Wake
  pub woken : List Woken
  pub tells : Tells told told' lines
  pub grew : Grew notes added old new
  pub fits : Fits (map (λ w. w.image) added) woken (woke_in notes)
  pub goes : (w : List Woken) (o : List Outcome) → whole (woken ++ w) (outcomes_in lines ++ o) ≡ behind lines notes (rest w o)
  pub adds_up : AddsUp (notes ++ untold) (tallies added) (tally_now old) (tally_now new)

-- And each stop that came is reported. What the operations made of the bytes on the disk is a chain.
pub record Goes (whole rest : Going) (told told' : Told) (old new : DiskState) : Type 0 where
  pub part : GoesBut [] whole rest told told' old new
  pub chained : Chains whole part.woken (outcomes_in part.lines) part.notes (map (λ w. w.image) part.added) old new

-- ---- a part that was given up

-- A part was played up to a rest, which was then given up: of what the rest says with one more outcome a front was printed, with
-- no whole line; no stop came since but that outcome; and whatever the disk is left as, it loads as the rest says where nothing
-- more happens.
pub record RunBreaks (whole : Going) (told : Told) (said' : List ℕ) (old new : DiskState) : Type 0 where
  pub rest : Going
  pub mid : Told
  pub outcome : Outcome
  pub goes : GoesBut (Ended outcome ∷ []) whole rest told mid old new
  pub part : List ℕ
  pub said_is : said' ≡ mid.said ++ part
  pub cut_off : HasNoLineFeed part
  pub front : IsFront (printed_lines mid.form (rest [] (outcome ∷ [])).lines) part
  pub left : EachCrash new (MayLoad (rest [] []).disk)

-- the same of an act, whose rest is one too
pub record Breaks (whole : Act) (told : Told) (said' : List ℕ) (old new : DiskState) : Type 0 where
  pub rest : Act
  pub mid : Told
  pub outcome : Outcome
  pub plays : GoesBut (Ended outcome ∷ []) (play whole) (play rest) told mid old new
  pub part : List ℕ
  pub said_is : said' ≡ mid.said ++ part
  pub cut_off : HasNoLineFeed part
  pub front : IsFront (printed_lines mid.form (play rest [] (outcome ∷ [])).lines) part
  pub left : EachCrash new (MayLoad (play rest [] []).disk)

-- ---- what a call answers

-- the act was played up to a rest, of which more is known; or it was given up
abbrev pub PlaysOr : {T E : Type 0} → Act → Told → Told → DiskState → DiskState → Result T E → (T → Act → Type 0) → Type 0
PlaysOr whole told told' old new (Ok x) Left = (rest : Act) × (Goes (play whole) (play rest) told told' old new × Left x rest)
PlaysOr whole told told' old new (Err e) Left = Breaks whole told told'.said old new

-- the line was reported, or a prefix of it was printed
abbrev pub TellsOr : {T E : Type 0} → Line → Told → Told → Result T E → Type 0
TellsOr line old new (Ok x) = Tells old new (line ∷ [])
TellsOr line old new (Err e) = SaysFront old.said new.said (printed old.form line)
