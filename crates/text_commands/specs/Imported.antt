-- What does `import` do, and what does it say? (this project's own)
--
-- The edits of a registry text are made in a hive, all or none, and committed where they gave another tree (`specs/Changed.antt`). One line
-- is printed, and one before it for each option that asks for it (`specs/ImportLines.antt`).
use Rattle.std.specs.Prelude.{◌≡◌, ◌⊎◌, ◌+◌, ◌++◌, ℕ, false, List, [], Result, Ok, Err}
use Rattle.nt_bytes.specs.declared.fault.HiveFault.{HiveFault}
use Rattle.nt_edge.specs.Disk.{DiskState, new_state}
use Rattle.nt_edge.specs.Host.{HostState}
use Rattle.hive_model.specs.Edit.{Step}
use Rattle.hive_model.specs.Image.{Image}
use Rattle.hive_model.specs.Load.{Loads, LoadFault}
use Rattle.hive_model.specs.State.{HiveState}
use Rattle.start_model.specs.Possible.{Woken}
use Rattle.run_parts.specs.run_parts.Reports.{LeftOf}
use Rattle.report_text.specs.declared.line_text.form.ReportForm.{ReportForm}
use Rattle.reg_text.specs.declared.stop.RegFault.{RegFault}
use Rattle.command_words.specs.Words.{ImportAsked}
use Rattle.command_parts.specs.declared.command_parts.inputs.HiveFiles.{HiveFiles}
use Rattle.command_parts.specs.declared.command_parts.refusal.Refusal.{Refusal as Why}
use Rattle.command_parts.specs.declared.command_parts.refusal.Refusal.TheVariants.{HiveFault as BadHive}
use Rattle.command_parts.specs.declared.command_parts.status.Status.{Status}
use Rattle.command_parts.specs.declared.command_parts.status.Status.TheVariants as statuses
use Rattle.command_parts.specs.command_parts.Decides.{Decides}
use Rattle.command_parts.specs.command_parts.Inputs.{hive_in, file_in}
use Rattle.command_parts.specs.command_parts.Leaves.{named, IsPartDone}
use Rattle.command_parts.specs.command_parts.Placed.{image_in}
use Rattle.command_parts.specs.command_parts.Refusals.{Answer, Ends, refusal}
use Rattle.command_parts.specs.command_parts.Saves.{Saves, saved_count, TellsFirst}
use Rattle.text_commands.specs.declared.said.How.{How}
use Rattle.text_commands.specs.Changed.{Change, steps_in, change_of}
use Rattle.text_commands.specs.Committed.{IsCommitWhere}
use Rattle.text_commands.specs.Exported.{fault_answer}
use Rattle.text_commands.specs.ImportLines.{said_text}

-- ---- the disk

-- The disk afterwards: each named file was placed and that many taken, no stop was ordered and none came, and it
-- loads as the state after the change, clean. Where a tree was committed, its log lists the sectors that differ from what the files were
-- recovered as.
pub record IsImported (files : HiveFiles) (change : Change) (saved : ℕ) (disk : DiskState) : Type 0 where
  pub loads : (c : Image) → LeftOf disk c → Loads c change.state false
  pub logged : (c : Image) → LeftOf disk c → IsCommitWhere change.said.done (image_in files) change.before change.steps change.state c
  pub placed : disk.history.placings ≡ 1 + named files.log
  pub taken : disk.history.takings ≡ saved
  pub unordered : disk.history.armings ≡ []
  pub uncut : disk.history.cut_calls ≡ 0
  pub no_cuts : disk.cuts ≡ 0
  pub no_faults : disk.faults ≡ 0

-- ---- the end

-- what is printed for a change in a form, with the status
abbrev pub imported : ReportForm → Change → Answer
imported form change = record { status = statuses.Done; text = said_text form change.said }

-- The lines were printed whole at the end, and the files saved; or a prefix of the lines up to a fault in saying or saving, or until
-- memory ran out, and all of them before a file was taken to be saved. The disk is this afterwards.
abbrev pub EndsChange : HiveFiles → Saves → ReportForm → Change → DiskState → Status → List ℕ → List ℕ → Type 0
EndsChange files saves form change disk statuses.Done old new =
    (new ≡ old ++ said_text form change.said) × IsImported files change (saved_count saves) disk
EndsChange files saves form change disk statuses.WriteFault old new =
    Ends (imported form change) statuses.WriteFault old new × IsPartDone files (saved_count saves) disk × TellsFirst (said_text form change.said) disk old new
EndsChange files saves form change disk statuses.Memory old new =
    Ends (imported form change) statuses.Memory old new × IsPartDone files (saved_count saves) disk × TellsFirst (said_text form change.said) disk old new
EndsChange files saves form change disk refused old new = ⊥

-- the fault of the text is printed, and nothing was done to the disk; or its edits are made
abbrev pub EndsSteps : HiveFiles → Saves → How → HiveState → Result (List Step) RegFault → DiskState → Status → List ℕ → List ℕ → Type 0
EndsSteps files saves how s (Err fault) disk status old new = Ends (fault_answer fault) status old new × (disk ≡ new_state)
EndsSteps files saves how s (Ok steps) disk status old new = EndsChange files saves how.form (change_of how s steps) disk status old new

-- the text's file is absent, and that is printed; or it is read
abbrev pub EndsText : HiveFiles → Saves → How → HiveState → Result (List ℕ) Why → DiskState → Status → List ℕ → List ℕ → Type 0
EndsText files saves how s (Err why) disk status old new = Ends (refusal why) status old new × (disk ≡ new_state)
EndsText files saves how s (Ok text) disk status old new = EndsSteps files saves how s (steps_in how.encoding text) disk status old new

-- The hive has a first fault, and that is printed; or it loads as a state, and the text is asked for; or there was no memory or a read
-- fault before anything was printed.
abbrev pub EndsHive : HiveFiles → Saves → How → Result (List ℕ) Why → DiskState → Status → List ℕ → List ℕ → Type 0
EndsHive files saves how text disk status old new =
    ((fault : HiveFault) × (LoadFault (image_in files) fault) × Ends (refusal (BadHive fault)) status old new × (disk ≡ new_state))
    ⊎ (((placed : Woken) × (Loads (image_in files) placed.state placed.dirty) × EndsText files saves how placed.state text disk status old new)
    ⊎ (((status ≡ statuses.Memory) × (new ≡ old) × IsPartDone files 0 disk) ⊎ ((status ≡ statuses.ReadFault) × (new ≡ old) × (disk ≡ new_state))))

-- the first obstacle is printed, and nothing was done to the disk; or there is none, and the hive decides
abbrev pub EndsImport : Result HiveFiles Why → Saves → How → Result (List ℕ) Why → DiskState → Status → List ℕ → List ℕ → Type 0
EndsImport (Err r) saves how text disk status old new = Ends (refusal r) status old new × (disk ≡ new_state)
EndsImport (Ok files) saves how text disk status old new = EndsHive files saves how text disk status old new

-- the files that the command line wants to be saved
abbrev pub import_saves : ImportAsked → Saves
import_saves words = record { hive = words.save_hive; log = words.save_log }

-- how the text is read and its edits are made
abbrev pub import_how : ReportForm → ImportAsked → How
import_how form words = record { form = form; encoding = words.encoding; current = words.current; lenient = words.lenient }

-- what the command leaves
abbrev pub DecidesImport : ReportForm → ImportAsked → Status → HostState → HostState → DiskState → Type 0
DecidesImport form words status old new disk =
    Decides (EndsImport (hive_in old.files words.hive words.log) (import_saves words) (import_how form words)
    (file_in words.reg (old.files words.reg)) disk)
    (import_saves words) status old new disk
