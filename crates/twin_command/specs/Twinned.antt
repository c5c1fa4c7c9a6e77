-- What does `twin` do? (this project's own)
--
-- It loads what two files stand for by one of two ways to keep a hive, repairs it, changes the default set where that is asked
-- for, and says so.
use Rattle.std.specs.Prelude.{◌≡◌, ◌⊎◌, ◌+◌, ◌++◌, ℕ, List, [], Option, Result, Ok, Err}
use Rattle.nt_bytes.specs.declared.fault.HiveFault.{HiveFault}
use Rattle.hive_model.specs.Image.{Image}
use Rattle.hive_model.specs.Recovery.{Recovered, recovered_of}
use Rattle.hive_model.specs.Tree.{Tree}
use Rattle.nt_edge.specs.Disk.{DiskState, new_state}
use Rattle.nt_edge.specs.Host.{Files, HostState}
use Rattle.run_parts.specs.run_parts.Reports.{LeftOf}
use Rattle.hive_alt.specs.Changes.{StandsAfter}
use Rattle.hive_alt.specs.Plans.{IsFound}
use Rattle.hive_alt.specs.Schemes.{Standing, StandFault}
use Rattle.hive_alt.specs.Twin.{twin_of}
use Rattle.command_words.specs.Words.{TwinAsked}
use Rattle.command_words.specs.declared.asked.AskedScheme.{AskedScheme}
use Rattle.command_words.specs.declared.asked.AskedScheme.TheVariants.{Alt, Log}
use Rattle.command_parts.specs.declared.command_parts.inputs.HiveFiles.{HiveFiles}
use Rattle.command_parts.specs.declared.command_parts.refusal.Refusal.{Refusal}
use Rattle.command_parts.specs.declared.command_parts.refusal.Refusal.TheVariants.{HiveFault as BadHive}
use Rattle.command_parts.specs.declared.command_parts.status.Status.{Status}
use Rattle.command_parts.specs.declared.command_parts.status.Status.TheVariants as statuses
use Rattle.command_parts.specs.command_parts.Decides.{Decides}
use Rattle.command_parts.specs.command_parts.Inputs.{hive_in, asks_hive}
use Rattle.command_parts.specs.command_parts.Leaves.{named, IsPartDone}
use Rattle.command_parts.specs.command_parts.Placed.{image_in, IsUnrun}
use Rattle.command_parts.specs.command_parts.Refusals.{Answer, Ends, refusal}
use Rattle.command_parts.specs.command_parts.Saves.{Saves, saved_count, TellsFirst}
use Rattle.twin_command.specs.declared.report.Told.{Told}
use Rattle.report_text.specs.declared.line_text.form.ReportForm.{ReportForm}
use Rattle.twin_command.specs.Told.{told_in, told_of}

-- what the command line's way to keep a hive makes of an image
abbrev pub stands_by : AskedScheme → Standing
stands_by Alt = twin_of
stands_by Log = recovered_of

-- the two files stand for something that holds a tree
abbrev pub SomeFound : Standing → Image → Type 0
SomeFound stands image = (found : Recovered) × (tree : Tree) × IsFound stands image found tree

-- The disk afterwards: each named file was placed and that many taken, no stop was ordered and none came, and whatever a cut leaves of it
-- stands for the tree as it is to be, with nothing to repair.
pub record IsTwinned (stands : Standing) (files : HiveFiles) (number : Option ℕ) (found : Recovered) (tree : Tree) (saved : ℕ) (disk : DiskState) : Type 0 where
  pub stands_for : (c : Image) → LeftOf disk c → StandsAfter stands found tree number c
  pub placed : disk.history.placings ≡ 1 + named files.log
  pub taken : disk.history.takings ≡ saved
  pub unordered : disk.history.armings ≡ []
  pub uncut : disk.history.cut_calls ≡ 0
  pub no_cuts : disk.cuts ≡ 0
  pub no_faults : disk.faults ≡ 0

-- what is reported is that of what was found, and the disk is as it is to be
pub record TwinnedAs (stands : Standing) (files : HiveFiles) (number : Option ℕ) (told : Told) (disk : DiskState) : Type 0 where
  pub found : Recovered
  pub tree : Tree
  pub is_found : IsFound stands (image_in files) found tree
  pub is_told : told ≡ told_of number found tree
  pub disk_is : IsTwinned stands files number found tree 0 disk

-- the answer with the lines in one of the two forms
abbrev pub twinned : ReportForm → Option ℕ → Recovered → Tree → Answer
twinned form number found tree = record { status = statuses.Done; text = told_in form (told_of number found tree) }

-- The lines were printed whole at the end, and the files saved; or a prefix of the lines up to a fault in saying or saving, or to want
-- of memory, and all of them before a file was taken to be saved. The disk is this afterwards.
abbrev pub EndsTwinned : ReportForm → Standing → HiveFiles → Option ℕ → Saves → Recovered → Tree → DiskState → Status → List ℕ → List ℕ → Type 0
EndsTwinned form stands files number saves found tree disk statuses.Done old new =
    (new ≡ old ++ told_in form (told_of number found tree)) × IsTwinned stands files number found tree (saved_count saves) disk
EndsTwinned form stands files number saves found tree disk statuses.WriteFault old new =
    Ends (twinned form number found tree) statuses.WriteFault old new × IsPartDone files (saved_count saves) disk
    × TellsFirst (told_in form (told_of number found tree)) disk old new
EndsTwinned form stands files number saves found tree disk statuses.Memory old new =
    Ends (twinned form number found tree) statuses.Memory old new × IsPartDone files (saved_count saves) disk
    × TellsFirst (told_in form (told_of number found tree)) disk old new
EndsTwinned form stands files number saves found tree disk refused old new = ⊥

-- the files stand for something that holds a tree, and so it ends
pub record EndsFound (form : ReportForm) (stands : Standing) (files : HiveFiles) (number : Option ℕ) (saves : Saves) (disk : DiskState) (status : Status)
    (old new : List ℕ) : Type 0 where
  pub found : Recovered
  pub tree : Tree
  pub is_found : IsFound stands (image_in files) found tree
  pub ends : EndsTwinned form stands files number saves found tree disk status old new

-- The files have a first fault, and that is printed; or they stand for something that holds a tree; or there was no memory before
-- anything was printed.
abbrev pub EndsFiles : ReportForm → Standing → HiveFiles → Option ℕ → Saves → DiskState → Status → List ℕ → List ℕ → Type 0
EndsFiles form stands files number saves disk status old new =
    ((fault : HiveFault) × (StandFault stands (image_in files) fault) × Ends (refusal (BadHive fault)) status old new × (disk ≡ new_state))
    ⊎ (EndsFound form stands files number saves disk status old new
    ⊎ ((status ≡ statuses.Memory) × (new ≡ old) × IsUnrun disk))

-- the first obstacle is printed, and nothing was done to the disk; or there is none, and the files decide
abbrev pub EndsTwin : ReportForm → Result HiveFiles Refusal → Standing → Option ℕ → Saves → DiskState → Status → List ℕ → List ℕ → Type 0
EndsTwin form (Err r) stands number saves disk status old new = Ends (refusal r) status old new × (disk ≡ new_state)
EndsTwin form (Ok files) stands number saves disk status old new =
    EndsFiles form stands files number saves disk status old new ⊎ ((status ≡ statuses.ReadFault) × (new ≡ old) × (disk ≡ new_state))

-- the files that the command line wants to be saved
abbrev pub twin_saves : TwinAsked → Saves
twin_saves words = record { hive = words.save_hive; log = words.save_alt }

-- what the command leaves
abbrev pub DecidesTwin : ReportForm → TwinAsked → Status → HostState → HostState → DiskState → Type 0
DecidesTwin form words status old new disk =
    Decides (EndsTwin form (hive_in old.files words.hive words.alt) (stands_by words.scheme) words.default (twin_saves words) disk)
    (twin_saves words) status old new disk

-- how many files are asked for
abbrev pub asks_twin : TwinAsked → Files → ℕ
asks_twin words files = asks_hive files words.hive words.alt
