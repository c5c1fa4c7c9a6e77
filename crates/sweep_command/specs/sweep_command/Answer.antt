-- What does `sweep` print on given words and files? This project's own.
--
-- The first obstacle decides, and then the hive with its log, which has a first fault or is what the report is about: the lines of the event
-- are those of the quiet run of the book of startup, and the calls follow from them and from what two logs list: the one that was placed, and the
-- log of a disk that loads as the state after the event, which is the event's own where its last operation is a commit.
use Rattle.std.specs.Prelude.{◌≡◌, ◌⊎◌, ℕ, List, [], ◌∷◌, ◌++◌, map, Option, None, Some, unwrap_or, Result, Ok, Err, codes}
use Rattle.nt_bytes.specs.declared.fault.HiveFault.{HiveFault}
use Rattle.nt_bytes.specs.declared.fault.ReadStop.{ReadStop}
use Rattle.nt_bytes.specs.declared.fault.ReadStop.TheVariants as read
use Rattle.nt_edge.specs.Disk.{new_state}
use Rattle.nt_edge.specs.Host.{HostState}
use Rattle.nt_edge.specs.declared.host.HostStop.TheVariants.{Memory as NoMemory}
use Rattle.hive_model.specs.Carries.{IsRecoveredAs}
use Rattle.hive_model.specs.Image.{Image}
use Rattle.hive_model.specs.Load.{Loads, LoadFault}
use Rattle.hive_model.specs.State.{HiveState}
use Rattle.boot_script.specs.declared.boot_script.event.Event.{Event}
use Rattle.boot_script.specs.declared.boot_script.event.Event.TheVariants.{Make}
use Rattle.boot_machine.specs.boot_machine.Views.{event_in}
use Rattle.boot_run.specs.Agrees.{LoadsAny}
use Rattle.hive_store.specs.Changes.{Carried}
use Rattle.boot_run.specs.Choices.{choices}
use Rattle.start_model.specs.Boot.{Choice}
use Rattle.start_model.specs.EventActs.{event_step_of}
use Rattle.start_model.specs.Possible.{Possible, Woken, open_between}
use Rattle.start_model.specs.Quiet.{Quiet}
use Rattle.start_model.specs.Run.{first_state}
use Rattle.run_laws.specs.last_laws.Last.{last_in}
use Rattle.command_words.specs.Words.{SweepAsked}
use Rattle.command_parts.specs.declared.command_parts.inputs.HiveFiles.{HiveFiles}
use Rattle.command_parts.specs.declared.command_parts.status.Status.{Status}
use Rattle.command_parts.specs.declared.command_parts.status.Status.TheVariants as statuses
use Rattle.command_parts.specs.declared.command_parts.refusal.Refusal.{Refusal}
use Rattle.command_parts.specs.declared.command_parts.refusal.Refusal.TheVariants.{HiveFault as BadHive}
use Rattle.command_parts.specs.declared.command_parts.refusal.Obstacle.{Obstacle}
use Rattle.command_parts.specs.declared.command_parts.refusal.Obstacle.TheVariants.{Refused, Stopped}
use Rattle.command_parts.specs.command_parts.Decides.{Decides, DecidesAlone}
use Rattle.command_parts.specs.command_parts.Placed.{image_in}
use Rattle.command_parts.specs.command_parts.Refusals.{Ends, refusal}
use Rattle.command_parts.specs.command_parts.Saves.{no_saves}
use Rattle.report_text.specs.declared.line_text.form.ReportForm.{ReportForm}
use Rattle.sweep_command.specs.declared.sweep_inputs.inputs.SweepInputs.{SweepInputs}
use Rattle.sweep_command.specs.sweep_inputs.Inputs.{SweepFilesAsked, inputs_in}
use Rattle.sweep_text.specs.sweep_lines.Swept.{swept_by, state_after}
use Rattle.sweep_command.specs.declared.sweep_run.playing.Played.{Played}
use Rattle.sweep_command.specs.sweep_run.Played.{IsPlayed}
use Rattle.sweep_command.specs.sweep_run.Swept.{IsLogOf, IsLogBetween}
use Rattle.boot_script.specs.declared.sweep_script.reading.SweepScript.{SweepScript}
use Rattle.boot_script.specs.sweep_script.Names.{first_word}
use Rattle.sweep_text.specs.sweep_text.Logged.{logged_of}
use Rattle.sweep_text.specs.sweep_text.Report.{sweep_report}

-- the files that are asked for
abbrev pub files_asked : SweepAsked → SweepFilesAsked
files_asked asked = record {
  hive = asked.hive;
  log = asked.log;
  boot_ini = asked.boot_ini;
  system = asked.system;
  script = asked.script;
}

-- ---- the report

-- the event after those before it, from what the hive loads as, with what boot.ini has for starts
abbrev pub swept : SweepInputs → Woken → Quiet
swept inputs placed = swept_by (choices inputs.ini inputs.system) (map event_in inputs.script.before) (event_in inputs.script.event) placed

-- the report with what this log lists of a commit
abbrev pub report_with : ReportForm → SweepInputs → Woken → List ℕ → List ℕ
report_with form inputs placed log =
    sweep_report form (first_word inputs.script.event) (swept inputs placed).lines (logged_of (unwrap_or inputs.hive.log [])) (logged_of log)

-- the last operation of the event, which comes after those before it
abbrev pub last_swept : SweepInputs → Woken → Option Possible
last_swept inputs placed =
    let choice = choices inputs.ini inputs.system in
    last_in None (event_step_of choice (event_in inputs.script.event) (state_after choice (map event_in inputs.script.before) (first_state placed)))

-- where that is a commit, the log is its own: it lists exactly the sectors in which what the commit wrote differs from what it was made of, and
-- that the commits before it led to, from what the placed hive is recovered as
abbrev pub IsItsLog : SweepInputs → Woken → List ℕ → Type 0
IsItsLog inputs placed log =
    (before after : HiveState) → last_swept inputs placed ≡ Some (open_between before after) → (c : Carried)
    → IsRecoveredAs (image_in inputs.hive) c.base c.bins → IsLogBetween c before after log

-- the text is the report, with what the log of a disk lists that loads as the state after the event
abbrev pub IsSwept : ReportForm → SweepInputs → Woken → List ℕ → Type 0
IsSwept form inputs placed text =
    (log : List ℕ) × IsLogOf (swept inputs placed).state.disk log × IsItsLog inputs placed log × (text ≡ report_with form inputs placed log)

-- whatever the hive loads as
abbrev pub IsSweptAs : ReportForm → SweepInputs → List ℕ → Type 0
IsSweptAs form inputs text = (placed : Woken) → Loads (image_in inputs.hive) placed.state placed.dirty → IsSwept form inputs placed text

-- ---- the end

-- The first obstacle is printed. Without one the hive has a first fault, and that is printed; or it loads as a state, and the report on the
-- event is printed; or there was no memory or a read fault before anything was printed.
abbrev pub EndsSweep : ReportForm → Result SweepInputs Refusal → Status → List ℕ → List ℕ → Type 0
EndsSweep form (Err r) status old new = Ends (refusal r) status old new
EndsSweep form (Ok inputs) status old new =
    ((fault : HiveFault) × (LoadFault (image_in inputs.hive) fault) × Ends (refusal (BadHive fault)) status old new)
    ⊎ (((placed : Woken) × (Loads (image_in inputs.hive) placed.state placed.dirty)
    × ((text : List ℕ) × IsSwept form inputs placed text × Ends (record { status = statuses.Done; text = text }) status old new))
    ⊎ (((status ≡ statuses.Memory) ⊎ (status ≡ statuses.ReadFault)) × (new ≡ old)))

-- the report on a hive, or its first fault, or there was no memory
abbrev pub SweepsAs : ReportForm → SweepInputs → Result (List ℕ) Obstacle → Type 0
SweepsAs form inputs (Ok text) = (placed : Woken) × (Loads (image_in inputs.hive) placed.state placed.dirty) × IsSwept form inputs placed text
SweepsAs form inputs (Err (Refused r)) = (fault : HiveFault) × (LoadFault (image_in inputs.hive) fault) × (r ≡ BadHive fault)
SweepsAs form inputs (Err (Stopped stop)) = stop ≡ NoMemory

-- of inputs without an obstacle: no file is changed, and no disk is there
abbrev pub DecidesInputs : ReportForm → SweepInputs → Status → HostState → HostState → Type 0
DecidesInputs form inputs status old new = DecidesAlone (EndsSweep form (Ok inputs)) no_saves status old new new_state

-- of the whole command
abbrev pub DecidesSweep : ReportForm → SweepAsked → Status → HostState → HostState → Type 0
DecidesSweep form asked status old new =
    Decides (EndsSweep form (inputs_in (files_asked asked) old.files)) no_saves status old new new_state

-- ---- its steps

-- the image loads as some state, or this is its first fault
abbrev pub IsChecked : Image → Result (Unit {0}) ReadStop → Type 0
IsChecked image (Ok u) = LoadsAny image
IsChecked image (Err (read.Fault f)) = LoadFault image f
IsChecked image (Err read.Memory) = Unit {0}

-- the event that is played after the others, so that their lines can be separated from the end of a report
abbrev pub probe_event : Event
probe_event = Make (codes "Select" ∷ [])

-- these events were played, from whatever the hive loads as
abbrev pub PlaysAll : (Option ℕ → Choice) → HiveFiles → List Event → Played → Type 0
PlaysAll choice hive events played =
    (placed : Woken) → Loads (image_in hive) placed.state placed.dirty → IsPlayed choice (image_in hive) events placed played

-- they were played with the probe after them, and are given back
abbrev pub PlaysProbed : (Option ℕ → Choice) → HiveFiles → List Event → Played × List Event → Type 0
PlaysProbed choice hive events r = (r.1 ≡ events) × PlaysAll choice hive (events ++ probe_event ∷ []) r.0

-- the events before were played so, and then these with the event
abbrev pub ArePlayed : (Option ℕ → Choice) → HiveFiles → SweepScript → Played × Played → Type 0
ArePlayed choice hive script r =
    (placed : Woken) → Loads (image_in hive) placed.state placed.dirty
    → IsPlayed choice (image_in hive) (script.before ++ probe_event ∷ []) placed r.0
    × IsPlayed choice (image_in hive) ((script.before ++ script.event ∷ []) ++ probe_event ∷ []) placed r.1
