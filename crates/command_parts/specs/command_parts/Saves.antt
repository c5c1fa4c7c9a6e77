-- Which files are saved, and what is in them afterwards? (this project's own)
use Rattle.std.specs.Prelude.{◌≡◌, ◌⊎◌, ◌≤◌, ◌<◌, ◌+◌, ◌++◌, ℕ, true, List, [], Option, Some, None, Result, Ok, Err, IfSome, OnOk, IsErrOf}
use Rattle.hive_model.specs.Image.{File, Primary, Log, Image, IsFileOf}
use Rattle.nt_edge.specs.Disk.{DiskState}
use Rattle.nt_edge.specs.Host.{Files, HostState, KeepsHost, IsUnsaid, AsksNone, CountsFault}
use Rattle.nt_edge.specs.declared.host.HostStop.{HostStop}
use Rattle.nt_edge.specs.declared.host.HostStop.TheVariants.{Read}
use Rattle.run_parts.specs.run_parts.Reports.{LeftOf}
use Rattle.command_parts.specs.command_parts.Leaves.{Leaves, more, named, stopped_as}
use Rattle.command_parts.specs.command_parts.Refusals.{Ends, IsToldAs}
use Rattle.command_parts.specs.declared.command_parts.status.Status.{Status}
use Rattle.command_parts.specs.declared.command_parts.status.Status.TheVariants.{Done, WriteFault, Memory}

-- the names under which the two files of the disk are saved
pub record Saves : Type 0 where
  pub hive : Option (List ℕ)
  pub log : Option (List ℕ)

-- nothing is saved
abbrev pub no_saves : Saves
no_saves = record { hive = None; log = None }

-- how many files are saved
abbrev pub saved_count : Saves → ℕ
saved_count saves = named saves.hive + named saves.log

-- ---- the files

-- the file of this name has the sectors of a file of the disk
abbrev pub SavedAs : File → Image → Files → List ℕ → Type 0
SavedAs file held files name = (bytes : List ℕ) × (files name ≡ Some bytes) × IsFileOf held file bytes

-- the hive's file, where it is to be saved under a name of its own, has its sectors of what the disk holds
abbrev pub HasSavedHive : Saves → Image → Files → Type 0
HasSavedHive saves held files = IfSome saves.hive (λ name. (saves.log ≡ Some name → ⊥) → SavedAs Primary held files name)

-- each file that was to be saved has its sectors of what the disk holds: those of the log, where both have one name
pub record HasSaved (saves : Saves) (held : Image) (files : Files) : Type 0 where
  pub hive : HasSavedHive saves held files
  pub log : IfSome saves.log (λ name. SavedAs Log held files name)

-- a file is to be saved under this name
abbrev pub IsSaved : Saves → List ℕ → Type 0
IsSaved saves name = (saves.hive ≡ Some name) ⊎ (saves.log ≡ Some name)

-- every other file is as it was
abbrev pub KeepsUnsaved : Saves → Files → Files → Type 0
KeepsUnsaved saves old new = (name : List ℕ) → (IsSaved saves name → ⊥) → new name ≡ old name

-- every file is as it was
abbrev pub KeepsAll : Files → Files → Type 0
KeepsAll old new = (name : List ℕ) → new name ≡ old name

-- every file is as it was but the one of this name, where there is one
abbrev pub KeepsAllBut : Option (List ℕ) → Files → Files → Type 0
KeepsAllBut but old new = (name : List ℕ) → (but ≡ Some name → ⊥) → new name ≡ old name

-- Saving was stopped. Its files come in turn, first the hive's and then the log's, so that each is saved whole or is as it was, but for one
-- that the host refused to put: the hive's, and then the log's is as it was; or the log's, and then the hive's is saved whole. Before a file
-- was taken from the disk none was changed, and the log's not before all were. No other file is changed.
pub record StopsSaving (saves : Saves) (disk : DiskState) (old new : Files) : Type 0 where
  pub others : KeepsUnsaved saves old new
  pub untaken : disk.history.takings ≡ 0 → KeepsAll old new
  pub early : disk.history.takings < saved_count saves → KeepsAllBut saves.hive old new
  pub in_turn : KeepsAllBut saves.hive old new ⊎ HasSavedHive saves disk.held new

-- At the end those files are saved and no other is changed. Where the environment stopped, the saving was stopped or not begun, and a refusal
-- changes no file.
abbrev pub FilesAs : Saves → Status → DiskState → Files → Files → Type 0
FilesAs saves Done disk old new = HasSaved saves disk.held new × KeepsUnsaved saves old new
FilesAs saves WriteFault disk old new = StopsSaving saves disk old new
FilesAs saves Memory disk old new = StopsSaving saves disk old new
FilesAs saves refused disk old new = new ≡ old

-- no file was taken from the disk before this text was printed whole
abbrev pub TellsFirst : List ℕ → DiskState → List ℕ → List ℕ → Type 0
TellsFirst text disk old new = (disk.history.takings ≡ 0) ⊎ (new ≡ old ++ text)

-- ---- the disk

-- That many files were taken from a disk, which settled to what a loss of power may have left.
pub record Settles (taken : ℕ) (old new : DiskState) : Type 0 where
  pub left : (c : Image) → LeftOf new c → LeftOf old c
  pub on : new.on ≡ old.on
  pub cuts : new.cuts ≡ old.cuts
  pub faults : new.faults ≡ old.faults
  pub wakes : new.history.wakes ≡ old.history.wakes
  pub armings : new.history.armings ≡ old.history.armings
  pub cut_calls : new.history.cut_calls ≡ old.history.cut_calls
  pub placings : new.history.placings ≡ old.history.placings
  pub takings : new.history.takings ≡ more taken old.history.takings

-- no write is in flight
abbrev pub IsStill : DiskState → Type 0
IsStill disk = disk.flight ≡ []

-- ---- a call that saves

-- nothing was printed and no file asked for, and only the fault of writing a file was counted
pub record WritesAlone (result : Result (Unit {0}) HostStop) (old new : HostState) : Type 0 where
  pub keeps : KeepsHost old new
  pub unsaid : IsUnsaid old new
  pub unasked : AsksNone old new
  pub counts : CountsFault result old new
  pub unread : IsErrOf result Read → ⊥

-- a file of the disk was saved under a name, where there is one; or saving it was stopped
pub record SavesFile (file : File) (name : Option (List ℕ)) (result : Result (Unit {0}) HostStop)
    (old new : HostState) (before after : DiskState) : Type 0 where
  pub host : WritesAlone result old new
  pub others : old.tells ≡ true → KeepsAllBut name old.files new.files
  pub saved : old.tells ≡ true → OnOk result (IfSome name (SavedAs file after.held new.files))
  pub still : OnOk result (IfSome name (λ n. IsStill after))
  pub taken : ℕ
  pub few : taken ≤ named name
  pub unput : old.tells ≡ true → taken ≡ 0 → KeepsAll old.files new.files
  pub all : OnOk result (taken ≡ named name)
  pub settles : Settles taken before after

-- both files were saved, each where it has a name; or saving them was stopped
pub record SavesBoth (saves : Saves) (result : Result (Unit {0}) HostStop) (old new : HostState) (before after : DiskState) : Type 0 where
  pub host : WritesAlone result old new
  pub others : old.tells ≡ true → KeepsUnsaved saves old.files new.files
  pub saved : old.tells ≡ true → OnOk result (HasSaved saves after.held new.files)
  pub in_turn : old.tells ≡ true → KeepsAllBut saves.hive old.files new.files ⊎ HasSavedHive saves after.held new.files
  pub taken : ℕ
  pub few : taken ≤ saved_count saves
  pub unput : old.tells ≡ true → taken ≡ 0 → KeepsAll old.files new.files
  pub early : old.tells ≡ true → taken < saved_count saves → KeepsAllBut saves.hive old.files new.files
  pub all : OnOk result (taken ≡ saved_count saves)
  pub settles : Settles taken before after

-- the status after it
abbrev pub saved_status : Result (Unit {0}) HostStop → Status
saved_status (Ok u) = Done
saved_status (Err stop) = stopped_as stop

-- a text was printed and both files saved; or the one or the other was stopped: no file was put before the whole text was printed, and
-- none for which the disk had no memory
pub record FinishesAs (text : List ℕ) (saves : Saves) (status : Status) (old new : HostState) (before after : DiskState) : Type 0 where
  pub leaves : Leaves (Ends (record { status = Done; text = text })) status old new
  pub files : old.tells ≡ true → FilesAs saves status after old.files new.files
  pub unasked : AsksNone old new
  pub told : IsToldAs Done status
  pub taken : ℕ
  pub few : taken ≤ saved_count saves
  pub unput : old.tells ≡ true → taken ≡ 0 → KeepsAll old.files new.files
  pub first : old.tells ≡ true → (taken ≡ 0 → ⊥) → new.said ≡ old.said ++ text
  pub all : status ≡ Done → taken ≡ saved_count saves
  pub settles : Settles taken before after
