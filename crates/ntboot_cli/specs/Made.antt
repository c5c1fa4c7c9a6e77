-- What does `make` do? (this project's own; JSON is RFC 8259)
--
-- It starts a generated hive once, on a disk of its own, up to a good logon, and says what that came to in one line.
use Rattle.std.specs.Prelude.{◌≡◌, ◌≤◌, ◌++◌, ℕ, false, List, [], ◌∷◌, Option, Some, None, Result, Ok, Err, codes}
use Rattle.std.specs.Fmt.{decimal}
use Rattle.nt_bytes.specs.declared.version.HiveVersion.TheVariants.{V3}
use Rattle.nt_bytes.specs.Reading.{◌>>=◌}
use Rattle.hive_model.specs.Image.{Image}
use Rattle.nt_edge.specs.Disk.{DiskState}
use Rattle.boot_ini.specs.arc_path.Reading.{arc_of}
use Rattle.start_model.specs.Events.{Event, BootNow, Go, Logon, Off}
use Rattle.start_model.specs.Fits.{MayLoad}
use Rattle.report_words.specs.declared.words.Verdict.{Verdict}
use Rattle.start_model.specs.Lines.{verdict_word}
use Rattle.start_model.specs.Report.{Going}
use Rattle.start_model.specs.Possible.{Woken}
use Rattle.start_model.specs.Run.{run_of}
use Rattle.start_model.specs.Quiet.{Quiet, quiet_run_of}
use Rattle.start_model.specs.Summary.{Summary, summary_of, no_summary}
use Rattle.run_parts.specs.run_parts.Reports.{LeftOf}
use Rattle.run_parts.specs.printed_parts.Parts.{Told}
use Rattle.run_parts.specs.printed_parts.Reports.{Reports, ReportsFront}
use Rattle.boot_run.specs.declared.summary.Summary.{Summary as RunSummary}
use Rattle.boot_run.specs.Choices.{choices}
use Rattle.boot_run.specs.Views.{summary_in}
use Rattle.command_words.specs.Words.{usual_system}
use Rattle.report_text.specs.line_text.Objects.{Value, Number, Text, object_text}
use Rattle.report_text.specs.declared.line_text.form.ReportForm.{ReportForm}
use Rattle.report_text.specs.declared.line_text.form.ReportForm.TheVariants as forms
use Rattle.generated_hive.specs.Generated.{generated}
use Rattle.ntboot_cli.specs.declared.making.Usual.{Usual}
use Rattle.command_parts.specs.declared.command_parts.refusal.Refusal.{Refusal}
use Rattle.command_parts.specs.command_parts.Inputs.{system_in, ini_in}

-- the usual system, and a boot.ini without text; both are there
abbrev pub usual_in : Result Usual Refusal
usual_in = do
  system ← system_in (arc_of usual_system)
  ini ← ini_in [] usual_system
  Ok (record { system = system; ini = ini })

-- the generated hive as it is placed: clean, of version 1.3, with sequence number 1
abbrev pub made_state : ℕ → Woken
made_state count = record { state = record { tree = generated count; sequence = 1; version = V3 }; dirty = false }

-- one start up to its end, a logon, and off
abbrev pub make_script : List Event
make_script = BootNow None false ∷ Go None ∷ Logon ∷ Off ∷ []

-- the run of that script
abbrev pub made_going : Usual → Woken → Going
made_going usual placed = run_of (choices usual.ini usual.system) make_script placed

-- the quiet run of that script
abbrev pub made_run : Usual → ℕ → Quiet
made_run usual count = quiet_run_of (choices usual.ini usual.system) make_script (made_state count)

abbrev pub last_word : Option Verdict → List ℕ
last_word None = codes "none"
last_word (Some verdict) = verdict_word verdict

-- what `make` says of a report's summary as text
abbrev pub summary_text : ℕ → Summary → List ℕ
summary_text count s =
    codes "made " ++ decimal count ++ codes " started " ++ decimal s.started ++ codes " failed " ++ decimal s.failed
    ++ codes " unmet " ++ decimal s.unmet ++ codes " verdict " ++ last_word s.verdict ++ codes " sequence " ++ decimal s.sequence ++ codes "\n"

-- the fields of the same line: the counts, and how the start ended
abbrev pub summary_fields : ℕ → Summary → List (List ℕ × Value)
summary_fields count s =
    (codes "services", Number count) ∷ (codes "started", Number s.started) ∷ (codes "failed", Number s.failed)
    ∷ (codes "unmet", Number s.unmet) ∷ (codes "verdict", Text (last_word s.verdict)) ∷ (codes "sequence", Number s.sequence) ∷ []

-- the same line in one of the two forms
abbrev pub summary_line : ReportForm → ℕ → Summary → List ℕ
summary_line forms.Text count s = summary_text count s
summary_line forms.Json count s = object_text (codes "made") (summary_fields count s)

-- what `make` says in one of the two forms
abbrev pub made_text : ReportForm → Usual → ℕ → List ℕ
made_text form usual count = summary_line form count (summary_of (made_run usual count).lines)

-- The disk after `make`: one file was placed and that many taken, no stop was ordered and none came, and it loads as the run's
-- last state.
pub record IsMade (usual : Usual) (count saved : ℕ) (disk : DiskState) : Type 0 where
  pub loads : (c : Image) → LeftOf disk c → MayLoad (made_run usual count).state.disk c
  pub placed : disk.history.placings ≡ 1
  pub taken : disk.history.takings ≡ saved
  pub unordered : disk.history.armings ≡ []
  pub uncut : disk.history.cut_calls ≡ 0
  pub no_cuts : disk.cuts ≡ 0
  pub no_faults : disk.faults ≡ 0

-- the disk where `make` was stopped: at most one file was placed and that many taken, and no stop was ordered
pub record IsPartMade (most : ℕ) (disk : DiskState) : Type 0 where
  pub placed : disk.history.placings ≤ 1
  pub taken : disk.history.takings ≤ most
  pub unordered : disk.history.armings ≡ []
  pub uncut : disk.history.cut_calls ≡ 0

-- this was printed in the form, and its lines amount to the summary
abbrev pub told : ReportForm → List ℕ → Summary → Told
told form said summary = record { said = said; form = form; summary = summary }

-- a placed hive was run once: the whole report came to the summary, or the run was given up
abbrev pub PlaysMade : {E : Type 0} → Usual → Woken → DiskState → DiskState → Result RunSummary E → Type 0
PlaysMade usual placed before after (Ok summary) =
    (said : List ℕ) × Reports (made_going usual placed) (told forms.Text [] no_summary) (told forms.Text said (summary_in summary)) before after
PlaysMade usual placed before after (Err e) = (said : List ℕ) × ReportsFront forms.Text (made_going usual placed) [] said before after
