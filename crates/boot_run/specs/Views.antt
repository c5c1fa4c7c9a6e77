-- The values of the code as those of the book.
use Rattle.std.specs.Prelude.{◌≡◌, ℕ, List, ◌∷◌, ◌++◌, Result, Ok, Err}
use Rattle.nt_edge.specs.Disk.{DiskState}
use Rattle.nt_edge.specs.Host.{HostState, SaysFront}
use Rattle.start_model.specs.Summary as book
use Rattle.start_model.specs.Act.{Act}
use Rattle.report_words.specs.declared.line.Line.{Line}
use Rattle.report_text.specs.line_objects.Objects.{printed}
use Rattle.run_parts.specs.printed_parts.Parts.{Told, Tells, PlaysOr}
use Rattle.boot_run.specs.declared.summary.Summary.{Summary}
use Rattle.boot_run.specs.declared.runner.Runner.{Runner}
use Rattle.boot_run.specs.declared.stop.RunStop.{RunStop}

abbrev pub summary_in : Summary → book.Summary
summary_in s = record { started = s.started; failed = s.failed; unmet = s.unmet; verdict = s.verdict; sequence = s.sequence }

-- what a host was reported, in which form, counted so
abbrev pub told_by : HostState → Summary → Told
told_by host summary = record { said = host.said; form = summary.form; summary = summary_in summary }

-- what was reported through the runner
abbrev pub told_in : HostState → Runner → Told
told_in host runner = told_by host runner.summary

-- a run at a moment: what was reported, and the disk
pub record Moment : Type 0 where
  pub told : Told
  pub disk : DiskState

-- the moment of this host, whose report is counted so, and this disk
abbrev pub moment_by : HostState → Summary → DiskState → Moment
moment_by host summary disk = record { told = told_by host summary; disk = disk }

-- the moment of this host, runner and disk
abbrev pub moment : HostState → Runner → DiskState → Moment
moment host runner disk = moment_by host runner.summary disk

-- from the one moment to the other the act was played up to a rest, of which more is known; or it was given up
pub record RunsTo {T : Type 0} (act : Act) (old new : Moment) (result : Result T RunStop) (Left : T → Act → Type 0) : Type 0 where
  pub is : PlaysOr act old.told new.told old.disk new.disk result Left

-- of these lines some were reported, and of the next one a front was printed
pub record SaysPart (lines : List Line) (old : Told) (said : List ℕ) : Type 0 where
  pub first : List Line
  pub line : Line
  pub rest : List Line
  pub parts : lines ≡ first ++ line ∷ rest
  pub mid : Told
  pub told : Tells old mid first
  pub front : SaysFront mid.said said (printed mid.form line)

-- of these lines those before the rest were reported
pub record TellsBefore (lines rest : List Line) (old new : Told) : Type 0 where
  pub first : List Line
  pub parts : lines ≡ first ++ rest
  pub told : Tells old new first

-- these lines were reported; or those before one, of which a front was printed
abbrev pub SaysAll : {T : Type 0} → List Line → Told → Told → Result T RunStop → Type 0
SaysAll lines old new (Ok x) = Tells old new lines
SaysAll lines old new (Err e) = SaysPart lines old new.said
