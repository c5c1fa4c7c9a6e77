-- What the program answers on given words and files. This project's own.
--
-- The first obstacle decides, and then the hive with its log, which has a first fault or is what the command is about.
use Rattle.std.specs.Prelude.{◌≡◌, ◌⊎◌, ◌≤◌, ◌++◌, ℕ, Bool, true, false, if◌then◌else◌, List, None, map, codes, Result, Ok, Err}
use Rattle.nt_bytes.specs.declared.fault.HiveFault.{HiveFault}
use Rattle.nt_bytes.specs.declared.fault.ReadStop.{ReadStop}
use Rattle.nt_bytes.specs.declared.fault.ReadStop.TheVariants as read
use Rattle.nt_edge.specs.Disk.{DiskState, new_state}
use Rattle.nt_edge.specs.Host.{Files, HostState, KeepsOthers}
use Rattle.hive_model.specs.Carries.{IsRecoveredAs}
use Rattle.hive_model.specs.Image.{Image}
use Rattle.hive_model.specs.Load.{Loads, LoadFault}
use Rattle.hive_model.specs.Size.{bulk_of}
use Rattle.hive_store.specs.Changes.{Carried}
use Rattle.boot_machine.specs.boot_machine.Views.{event_in}
use Rattle.start_model.specs.Fits.{outcomes_of, KeepsGood}
use Rattle.start_model.specs.Report.{Going}
use Rattle.start_model.specs.Possible.{Woken}
use Rattle.start_model.specs.Run.{run_of}
use Rattle.start_model.specs.Quiet.{Quiet, quiet_run_of}
use Rattle.start_model.specs.Summary.{Summary, no_summary}
use Rattle.run_laws.specs.run_laws.Quiet.{AllFinished}
use Rattle.run_parts.specs.printed_parts.Chain.{placed_at}
use Rattle.run_parts.specs.printed_parts.Logged.{IsChained}
use Rattle.run_parts.specs.printed_parts.Reports.{Reports, ReportsFront}
use Rattle.boot_run.specs.Agrees.{LoadsAny}
use Rattle.boot_run.specs.Choices.{choices}
use Rattle.help_text.specs.Pages.{page_text}
use Rattle.tree_text.specs.TreeObjects.{shown_in}
use Rattle.command_words.specs.Words.{Reading, asks, help, refused, version, services, find, devices, sweep, graph, why, diff, salvage, whatif, check, key, replay, export, import, twin, control, safe, run, show, make, RunAsked, ShowAsked, MakeAsked}
use Rattle.command_parts.specs.declared.command_parts.status.Status.{Status}
use Rattle.command_parts.specs.declared.command_parts.status.Status.TheVariants as statuses
use Rattle.command_parts.specs.declared.command_parts.refusal.Refusal.{Refusal}
use Rattle.command_parts.specs.declared.command_parts.refusal.Refusal.TheVariants.{Usage, HiveFault as BadHive}
use Rattle.command_parts.specs.declared.command_parts.inputs.HiveFiles.{HiveFiles}
use Rattle.ntboot_cli.specs.declared.inputs.Inputs.{Inputs}
use Rattle.ntboot_cli.specs.declared.making.Usual.{Usual}
use Rattle.command_parts.specs.command_parts.Decides.{Decides, DecidesAlone}
use Rattle.command_parts.specs.command_parts.Inputs.{file_in, hive_in, AsksSoMany}
use Rattle.ntboot_cli.specs.Inputs.{arguments_in, inputs_in, asks_in}
use Rattle.safe_command.specs.Answer.{question_in as safe_question_in}
use Rattle.control_command.specs.Answer.{question_in as control_question_in}
use Rattle.twin_command.specs.Twinned.{EndsTwin, stands_by, twin_saves}
use Rattle.text_commands.specs.Asks.{AsksImport}
use Rattle.text_commands.specs.Imported.{EndsImport, import_how, import_saves}
use Rattle.key_text.specs.Words.{path_in}
use Rattle.text_commands.specs.Exported.{EndsExported}
use Rattle.ntboot_cli.specs.Made.{told, usual_in, made_text, IsMade, IsPartMade}
use Rattle.command_parts.specs.command_parts.Leaves.{Leaves}
use Rattle.command_parts.specs.command_parts.OnHive.{EndsOnHive, Question}
use Rattle.command_parts.specs.command_parts.Reporting.{EndsReport}
use Rattle.report_text.specs.line_objects.Objects.{printed_lines}
use Rattle.report_text.specs.declared.line_text.form.ReportForm.{ReportForm}
use Rattle.report_text.specs.declared.line_text.form.ReportForm.TheVariants.{Text, Json}
use Rattle.key_command.specs.key_command.Answer.{question_in as key_question_in}
use Rattle.repair_commands.specs.replay_command.Answer.{report_in}
use Rattle.set_commands.specs.check_command.Answer.{question_in as check_question_in}
use Rattle.start_commands.specs.whatif_command.Answer.{question_in as whatif_question_in}
use Rattle.start_commands.specs.why_command.Answer.{question_in as why_question_in}
use Rattle.start_commands.specs.graph_command.Answer.{question_in as graph_question_in}
use Rattle.device_command.specs.Answer.{question_in as devices_question_in}
use Rattle.find_command.specs.Answer.{question_in as find_question_in}
use Rattle.services_command.specs.Answer.{question_in as services_question_in}
use Rattle.sweep_command.specs.sweep_command.Answer.{files_asked, EndsSweep}
use Rattle.sweep_command.specs.sweep_inputs.Inputs.{inputs_in as sweep_inputs_in}
use Rattle.repair_commands.specs.salvage_command.Answer.{report_in as salvage_report_in}
use Rattle.set_commands.specs.diff_command.Answer.{EndsDiff}
use Rattle.set_commands.specs.diff_command.Asks.{AsksDiff}
use Rattle.command_parts.specs.command_parts.Placed.{image_in, placed_disk, IsUnrun, IsUntouchedBy}
use Rattle.command_parts.specs.command_parts.Refusals.{Answer, Ends, IsToldAs, refusal}
use Rattle.command_parts.specs.command_parts.Saves.{Saves, no_saves, saved_count, FilesAs, KeepsUnsaved, Settles, TellsFirst}

-- ---- a run

-- the image loads as some state, or this is its first fault
abbrev pub IsChecked : {T : Type 0} → Image → Result T ReadStop → Type 0
IsChecked image (Ok x) = LoadsAny image
IsChecked image (Err (read.Fault f)) = LoadFault image f
IsChecked image (Err read.Memory) = Unit {0}

-- the run of the inputs' script, with what boot.ini has for its starts, on what the disk wakes up with first
abbrev pub run_in : Inputs → Woken → Going
run_in inputs placed = run_of (choices inputs.ini inputs.system) (map event_in inputs.script) placed

-- the same on a disk without cuts and faults
abbrev pub quiet_in : Inputs → Woken → Quiet
quiet_in inputs placed = quiet_run_of (choices inputs.ini inputs.system) (map event_in inputs.script) placed

-- The whole report was printed in this form. The disk as the run left it then settled, and that many files were taken from it. Where it had
-- no cut and no fault, the lines are those of the quiet run; and where the report says no stop, it counted none. What the run's operations made
-- of the bytes on the disk is a chain, which begins with what the placed hive is recovered as: the log of each commit that is done lists exactly
-- the sectors that differ from what the commit was made of, whose cells were edited in place, or repacked for want of room. LastKnownGood names a good set in each tree that was held, and in each
-- that the disk may load as.
pub record RunsWhole (form : ReportForm) (inputs : Inputs) (placed : Woken) (taken : ℕ) (before after : DiskState) (old new : List ℕ) : Type 0 where
  pub summary : Summary
  pub left : DiskState
  pub reports : Reports (run_in inputs placed) (told form old no_summary) (told form new summary) before left
  pub settles : Settles taken left after
  pub quiet : after.cuts ≡ 0 → after.faults ≡ 0 → new ≡ old ++ printed_lines form (quiet_in inputs placed).lines
  pub counted : AllFinished (outcomes_of reports.text) → (after.cuts ≡ before.cuts) × (after.faults ≡ before.faults)
  pub chained : let report = reports.report in (c : Carried) → IsRecoveredAs (image_in inputs.hive) c.base c.bins
      → IsChained (run_in inputs placed) report.woken (outcomes_of reports.text) (run_in inputs placed report.woken (outcomes_of reports.text)).notes
      (map (λ w. w.image) reports.added) (placed_at c) after
  pub good : let r = run_in inputs placed reports.report.woken (outcomes_of reports.text) in KeepsGood r.notes r.disk

-- A prefix of the report was printed, and LastKnownGood names a good set up to where nothing more happened. No file was taken from the disk.
pub record RunsFront (form : ReportForm) (inputs : Inputs) (placed : Woken) (before after : DiskState) (old new : List ℕ) : Type 0 where
  pub reports : ReportsFront form (run_in inputs placed) old new before after
  pub good : let r = run_in inputs placed reports.report.woken (outcomes_of reports.text) in KeepsGood r.notes r.disk
  pub untaken : after.history.takings ≡ 0

-- the run was given up, and a prefix of its report was printed; or the whole report was, and then the saving was given up
abbrev pub RunsPart : ReportForm → Inputs → Woken → Saves → DiskState → DiskState → List ℕ → List ℕ → Type 0
RunsPart form inputs placed saves before after old new =
    RunsFront form inputs placed before after old new
    ⊎ ((taken : ℕ) × (taken ≤ saved_count saves) × RunsWhole form inputs placed taken before after old new)

-- the run went from the disk as it was to the disk as it is
abbrev pub EndsRun : ReportForm → Inputs → Woken → Saves → DiskState → DiskState → Status → List ℕ → List ℕ → Type 0
EndsRun form inputs placed saves before after statuses.Done old new = RunsWhole form inputs placed (saved_count saves) before after old new
EndsRun form inputs placed saves before after statuses.WriteFault old new = RunsPart form inputs placed saves before after old new
EndsRun form inputs placed saves before after statuses.Memory old new = RunsPart form inputs placed saves before after old new
EndsRun form inputs placed saves before after other old new = ⊥

-- The hive has a first fault, and that is printed; or it loads as a state, and the script is run on the disk that holds it; or there
-- was no memory before anything was printed. The disk is this afterwards.
abbrev pub EndsHive : ReportForm → Inputs → Saves → DiskState → Status → List ℕ → List ℕ → Type 0
EndsHive form inputs saves disk status old new =
    ((fault : HiveFault) × (LoadFault (image_in inputs.hive) fault)
    × Ends (refusal (BadHive fault)) status old new × (disk ≡ new_state))
    ⊎ (((placed : Woken) × (Loads (image_in inputs.hive) placed.state placed.dirty)
    × EndsRun form inputs placed saves (placed_disk inputs.hive) disk status old new)
    ⊎ ((status ≡ statuses.Memory) × (new ≡ old) × IsUnrun disk))

-- the first obstacle is printed, and nothing was done to the disk; or there is none, and the hive decides
abbrev pub EndsInputs : ReportForm → Result Inputs Refusal → Saves → DiskState → Status → List ℕ → List ℕ → Type 0
EndsInputs form (Err r) saves disk status old new = Ends (refusal r) status old new × (disk ≡ new_state)
EndsInputs form (Ok inputs) saves disk status old new =
    EndsHive form inputs saves disk status old new ⊎ ((status ≡ statuses.ReadFault) × (new ≡ old) × (disk ≡ new_state))

-- ---- what a hive holds

-- the tree that was loaded, in one of the two forms
abbrev pub shown : ReportForm → Woken → Answer
shown form placed = record {
  status = statuses.Done;
  text = shown_in form placed.state.sequence (bulk_of placed.state.version placed.state.tree) placed.state.tree;
}

-- that question to the files of a hive
abbrev pub shown_on : ReportForm → HiveFiles → Question
shown_on form files = record { image = image_in files; answer = shown form }

-- the question, or the first obstacle
abbrev pub shown_by : ReportForm → Result HiveFiles Refusal → Result Question Refusal
shown_by form (Ok files) = Ok (shown_on form files)
shown_by form (Err r) = Err r

-- the same by the options and the files that they name
abbrev pub show_question_in : ReportForm → ShowAsked → Files → Result Question Refusal
show_question_in form asked files = shown_by form (hive_in files asked.hive asked.log)

-- ---- a generated hive

-- the answer with the line on it, in one of the two forms
abbrev pub made : ReportForm → Usual → ℕ → Answer
made form usual count = record { status = statuses.Done; text = made_text form usual count }

-- a prefix of the line was printed, and all of it before a file was taken to be saved; the disk is left as it may be then
abbrev pub EndsPart : ReportForm → Usual → ℕ → Saves → DiskState → Status → List ℕ → List ℕ → Type 0
EndsPart form usual count saves disk status old new =
    Ends (made form usual count) status old new × IsPartMade (saved_count saves) disk × TellsFirst (made_text form usual count) disk old new

-- the line was printed whole at the end, or of it a front up to a fault in saying it or to lack of memory; the disk is this afterwards
abbrev pub EndsMade : ReportForm → Result Usual Refusal → ℕ → Saves → DiskState → Status → List ℕ → List ℕ → Type 0
EndsMade form (Err r) count saves disk status old new = Ends (refusal r) status old new × (disk ≡ new_state)
EndsMade form (Ok usual) count saves disk statuses.Done old new = (new ≡ old ++ made_text form usual count) × IsMade usual count (saved_count saves) disk
EndsMade form (Ok usual) count saves disk statuses.WriteFault old new = EndsPart form usual count saves disk statuses.WriteFault old new
EndsMade form (Ok usual) count saves disk statuses.Memory old new = EndsPart form usual count saves disk statuses.Memory old new
EndsMade form (Ok usual) count saves disk other old new = ⊥

-- ---- a command

-- the files that the command line wants to be saved
abbrev pub saves_of : Reading → Saves
saves_of (refused reason) = no_saves
saves_of (help page) = no_saves
saves_of version = no_saves
saves_of (asks (run words) json) = record { hive = words.save_hive; log = words.save_log }
saves_of (asks (show words) json) = no_saves
saves_of (asks (make words) json) = record { hive = words.save_hive; log = None }
saves_of (asks (safe words) json) = no_saves
saves_of (asks (control words) json) = no_saves
saves_of (asks (twin words) json) = twin_saves words
saves_of (asks (import words) json) = import_saves words
saves_of (asks (export words) json) = no_saves
saves_of (asks (key words) json) = no_saves
saves_of (asks (replay words) json) = no_saves
saves_of (asks (check words) json) = no_saves
saves_of (asks (whatif words) json) = no_saves
saves_of (asks (salvage words) json) = no_saves
saves_of (asks (diff words) json) = no_saves
saves_of (asks (why words) json) = no_saves
saves_of (asks (graph words) json) = no_saves
saves_of (asks (sweep words) json) = no_saves
saves_of (asks (devices words) json) = no_saves
saves_of (asks (find words) json) = no_saves
saves_of (asks (services words) json) = no_saves

-- the answer with a page of help, or the version
abbrev pub about : List ℕ → Answer
about text = record { status = statuses.Done; text = text }

-- the form of a report, by whether its lines are to be JSON
abbrev pub form_of : Bool → ReportForm
form_of json = if json then Json else Text

-- words without a reading are bad usage; else the command decides, by the files before and after
abbrev pub EndsWords : Reading → Files → Files → DiskState → Status → List ℕ → List ℕ → Type 0
EndsWords (refused reason) files after disk status old new = Ends (refusal Usage) status old new × (disk ≡ new_state)
EndsWords (help page) files after disk status old new = Ends (about (page_text page)) status old new × (disk ≡ new_state)
EndsWords version files after disk status old new = Ends (about (codes "ntboot 1.0.0\n")) status old new × (disk ≡ new_state)
EndsWords (asks (run words) json) files after disk status old new =
    EndsInputs (form_of json) (inputs_in words files) (saves_of (asks (run words) json)) disk status old new
EndsWords (asks (show words) json) files after disk status old new =
    EndsOnHive (show_question_in (form_of json) words files) status old new × (disk ≡ new_state)
EndsWords (asks (make words) json) files after disk status old new =
    EndsMade (form_of json) usual_in words.count (saves_of (asks (make words) json)) disk status old new
EndsWords (asks (safe words) json) files after disk status old new =
    EndsOnHive (safe_question_in (form_of json) words files) status old new × (disk ≡ new_state)
EndsWords (asks (control words) json) files after disk status old new =
    EndsOnHive (control_question_in (form_of json) words files) status old new × (disk ≡ new_state)
EndsWords (asks (twin words) json) files after disk status old new =
    EndsTwin (form_of json) (hive_in files words.hive words.alt) (stands_by words.scheme) words.default (twin_saves words) disk status old new
EndsWords (asks (import words) json) files after disk status old new =
    EndsImport (hive_in files words.hive words.log) (import_saves words) (import_how (form_of json) words) (file_in words.reg (files words.reg)) disk status old new
EndsWords (asks (export words) json) files after disk status old new =
    EndsExported (form_of json) (hive_in files words.hive words.log) (path_in words.key) words.reg files after status old new × (disk ≡ new_state)
EndsWords (asks (key words) json) files after disk status old new =
    EndsOnHive (key_question_in (form_of json) words files) status old new × (disk ≡ new_state)
EndsWords (asks (replay words) json) files after disk status old new =
    EndsReport (report_in (form_of json) words files) words.save_hive files after status old new × (disk ≡ new_state)
EndsWords (asks (check words) json) files after disk status old new =
    EndsOnHive (check_question_in (form_of json) words files) status old new × (disk ≡ new_state)
EndsWords (asks (whatif words) json) files after disk status old new =
    EndsOnHive (whatif_question_in (form_of json) words files) status old new × (disk ≡ new_state)
EndsWords (asks (salvage words) json) files after disk status old new =
    EndsReport (salvage_report_in (form_of json) words files) words.save_hive files after status old new × (disk ≡ new_state)
EndsWords (asks (diff words) json) files after disk status old new = EndsDiff (form_of json) words files status old new × (disk ≡ new_state)
EndsWords (asks (why words) json) files after disk status old new =
    EndsOnHive (why_question_in (form_of json) words files) status old new × (disk ≡ new_state)
EndsWords (asks (graph words) json) files after disk status old new =
    EndsOnHive (graph_question_in (form_of json) words files) status old new × (disk ≡ new_state)
EndsWords (asks (sweep words) json) files after disk status old new =
    EndsSweep (form_of json) (sweep_inputs_in (files_asked words) files) status old new × (disk ≡ new_state)
EndsWords (asks (devices words) json) files after disk status old new =
    EndsOnHive (devices_question_in (form_of json) words files) status old new × (disk ≡ new_state)
EndsWords (asks (find words) json) files after disk status old new =
    EndsOnHive (find_question_in (form_of json) words files) status old new × (disk ≡ new_state)
EndsWords (asks (services words) json) files after disk status old new =
    EndsOnHive (services_question_in (form_of json) words files) status old new × (disk ≡ new_state)

-- the same number of files are asked for as are in the written order, up to the first obstacle; for `import` and `diff` more, where the hive has no fault
abbrev pub AsksAs : Reading → Status → HostState → HostState → Type 0
AsksAs (asks (import words) json) status old new = AsksImport words status old new
AsksAs (asks (diff words) json) status old new = AsksDiff words status old new
AsksAs asked status old new = AsksSoMany (asks_in asked) status old new

-- What becomes of the files: `export` changes the one that it puts alone, `replay` and `salvage` the one that they save alone, and `EndsWords` says
-- what is in it; every other command changes those that it saves, and where it was stopped each is whole or as it was, but for one.
abbrev pub LeavesFiles : Reading → Status → DiskState → Files → Files → Type 0
LeavesFiles (asks (export words) json) status disk old new = KeepsOthers old new words.reg
LeavesFiles (asks (replay words) json) status disk old new = KeepsUnsaved (record { hive = words.save_hive; log = None }) old new
LeavesFiles (asks (salvage words) json) status disk old new = KeepsUnsaved (record { hive = words.save_hive; log = None }) old new
LeavesFiles asked status disk old new = FilesAs (saves_of asked) status disk old new

-- ---- what a part of the program leaves

-- the same of a hive that a script is run on
abbrev pub DecidesHive : ReportForm → Inputs → Saves → Status → HostState → HostState → DiskState → Type 0
DecidesHive form inputs saves status old new disk = DecidesAlone (EndsHive form inputs saves disk) saves status old new disk

-- of all that a run reads
abbrev pub DecidesRun : ReportForm → RunAsked → Status → HostState → HostState → DiskState → Type 0
DecidesRun form words status old new disk =
    let saves : Saves = record { hive = words.save_hive; log = words.save_log } in
    Decides (EndsInputs form (inputs_in words old.files) saves disk) saves status old new disk

-- and of a hive that is made
abbrev pub MakesAlone : ReportForm → Result Usual Refusal → MakeAsked → Status → HostState → HostState → DiskState → Type 0
MakesAlone form usual words status old new disk =
    let saves : Saves = record { hive = words.save_hive; log = None } in
    DecidesAlone (EndsMade form usual words.count saves disk) saves status old new disk

-- all that holds of the whole call
pub record TopDecides (asked : Reading) (status : Status) (old new : HostState) (disk : DiskState) : Type 0 where
  pub leaves : Leaves (EndsWords asked old.files new.files disk) status old new
  pub files : old.tells ≡ true → LeavesFiles asked status disk old.files new.files
  pub off : disk.on ≡ false
  pub untouched : IsUntouchedBy status disk
  pub asks : AsksAs asked status old new
  pub usage : status ≡ statuses.Usage → arguments_in asked ≡ Err Usage
  pub refused : arguments_in asked ≡ Err Usage → IsToldAs statuses.Usage status
