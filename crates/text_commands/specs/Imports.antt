-- What do the steps of `import` do? (this project's own)
use Rattle.std.specs.Prelude.{◌≡◌, ◌⊎◌, true, false, ℕ, Bool, if◌then◌else◌, List, [], Option, Some, None, Result, Ok, Err, IfOk, OnOk}
use Rattle.hive_model.specs.Edit.{Step}
use Rattle.hive_model.specs.Image.{Image}
use Rattle.hive_model.specs.Base.{version_of}
use Rattle.hive_model.specs.Carries.{Carries, HasLog, IsRecoveredAs}
use Rattle.hive_model.specs.Load.{Loads, LoadFault}
use Rattle.nt_bytes.specs.declared.fault.ReadStop.{ReadStop}
use Rattle.nt_bytes.specs.declared.fault.ReadStop.TheVariants as read
use Rattle.hive_model.specs.State.{HiveState}
use Rattle.nt_edge.specs.Disk.{DiskState, new_state}
use Rattle.nt_edge.specs.Host.{HostState, KeepsFiles, AsksNone}
use Rattle.nt_edge.specs.Bench.{turned_off}
use Rattle.nt_edge.specs.Crash.{EachCrash}
use Rattle.reg_tree.specs.declared.stop.EditStop.{EditStop}
use Rattle.reg_tree.specs.declared.stop.EditStop.TheVariants as stops
use Rattle.hive_model.specs.Edit.{edited}
use Rattle.hive_model.specs.Tree.{Tree}
use Rattle.start_model.specs.Sets.{is_usable}
use Rattle.import_steps.specs.Current.{SetSteps, set_steps}
use Rattle.command_words.specs.declared.asked.AskedEncoding.{AskedEncoding}
use Rattle.start_model.specs.Possible.{Woken}
use Rattle.reg_text.specs.declared.stop.RegFault.{RegFault}
use Rattle.reg_text.specs.declared.stop.RegStop.{RegStop}
use Rattle.reg_text.specs.Gives.{GivesSteps}
use Rattle.reg_tree.specs.declared.steps.TreeStep.{TreeStep}
use Rattle.command_parts.specs.declared.command_parts.inputs.HiveFiles.{HiveFiles}
use Rattle.command_parts.specs.command_parts.Placed.{image_in}
use Rattle.command_parts.specs.declared.command_parts.status.Status.{Status}
use Rattle.command_parts.specs.declared.command_parts.status.Status.TheVariants as statuses
use Rattle.command_parts.specs.command_parts.Decides.{Decides, DecidesAlone}
use Rattle.command_parts.specs.command_parts.Inputs.{file_in}
use Rattle.command_parts.specs.command_parts.Leaves.{Leaves, IsPartDone}
use Rattle.command_parts.specs.command_parts.Refusals.{Ends, IsToldAs}
use Rattle.command_parts.specs.command_parts.Saves.{Saves}
use Rattle.hive_commit.specs.Stages.{next_number}
use Rattle.hive_store.specs.Commits.{committed_state, next_base, session_log}
use Rattle.hive_store.specs.Loading.{loaded_state}
use Rattle.hive_store.specs.Session.{Session, next_bins}
use Rattle.text_commands.specs.declared.said.Done.{Done}
use Rattle.text_commands.specs.declared.said.Done.TheVariants as dones
use Rattle.text_commands.specs.declared.said.How.{How}
use Rattle.text_commands.specs.declared.said.ImportStop.{ImportStop}
use Rattle.text_commands.specs.declared.said.ImportStop.TheVariants as import_stops
use Rattle.text_commands.specs.declared.said.Said.{Said}
use Rattle.text_commands.specs.Changed.{Change, steps_in, tree_by, as_protected, done_by, state_by, said_of, change_by, change_made, change_of}
use Rattle.text_commands.specs.Asks.{AsksBehind}
use Rattle.text_commands.specs.Exported.{fault_answer}
use Rattle.text_commands.specs.Committed.{IsCommitWhere}
use Rattle.text_commands.specs.Imported.{IsImported, EndsChange, EndsHive}

-- ---- on a disk

-- the session has a change and was committed, under this number: the disk carried what the session says, and carries what was written, with the
-- log of the sectors that differ
pub record SettlesAs (s : Session) (number : ℕ) (old new : DiskState) : Type 0 where
  pub changed : s.changed ≡ true
  pub number_is : number ≡ next_number s.base.first
  pub still : new.flight ≡ []
  pub loads : Loads new.held (committed_state s) false
  pub opened : Carries old.held s.base s.bins
  pub closed : Carries new.held (next_base s) (next_bins s)
  pub log : HasLog new.held (session_log s)
  pub version : s.cells.version ≡ version_of s.base.minor
  pub tree : s.cells.tree ≡ s.tree

-- a session without a change is left as it is; one with a change is committed
abbrev pub Settles : Session → DiskState → DiskState → Done → Type 0
Settles s old new (dones.Refused stop) = ⊥
Settles s old new dones.Nothing = (s.changed ≡ false) × (new ≡ old)
Settles s old new (dones.Commit number) = SettlesAs s number old new

-- a refusal is reported, and lack of memory is a stop
abbrev pub IsRefusedAs : {E : Type 0} → EditStop → Result Done E → Type 0
IsRefusedAs stop (Ok done) = (done ≡ dones.Refused (import_stops.Edit stop)) × (stop ≡ stops.Memory → ⊥)
IsRefusedAs stop (Err e) = stop ≡ stops.Memory

-- that much is printed of what was done, or there was no memory
abbrev pub SaysOf : {E : Type 0} → Option ℕ → Option ℕ → Result Done E → Result Said E → Type 0
SaysOf current passed (Ok done) (Ok said) = said ≡ said_of current passed done
SaysOf current passed (Ok done) (Err e) = ⊥
SaysOf current passed (Err d) (Ok said) = ⊥
SaysOf current passed (Err d) (Err e) = Unit {0}

-- the steps end as one that is refused after them makes it
abbrev pub EndsProtected : HiveState → List Step → Done → Type 0
EndsProtected s steps done = done ≡ done_by s (as_protected (edited s.version s.tree steps))

-- this was done by these steps, and whatever a loss of power leaves loads as the state after it, and is that of the commit where a tree was
-- committed
pub record IsMade (image : Image) (s : HiveState) (steps : List Step) (edit : Result Tree ImportStop) (disk : DiskState) (done : Done)
    : Type 0 where
  pub done_is : done ≡ done_by s edit
  pub loads : EachCrash disk (λ (c : Image). Loads c (state_by s edit) false)
  pub logged : EachCrash disk (IsCommitWhere done image s steps (state_by s edit))

-- the edits were made in a loaded hive, where a step after them may be refused
abbrev pub MakesTree : Bool → Session → List Step → DiskState → Done → Type 0
MakesTree protected h steps disk done =
    (image : Image) → IsRecoveredAs image h.base h.bins
    → IsMade image (loaded_state h) steps (tree_by protected (edited (version_of h.base.minor) h.tree steps)) disk done

-- the change was made: what is printed is of it, and whatever a loss of power leaves loads as its state, and is that of the commit where a tree
-- was committed
pub record Makes (image : Image) (change : Change) (disk : DiskState) (said : Said) : Type 0 where
  pub said_is : said ≡ change.said
  pub loads : EachCrash disk (λ (c : Image). Loads c change.state false)
  pub logged : EachCrash disk (IsCommitWhere change.said.done image change.before change.steps change.state)

-- it was made in a loaded hive
abbrev pub MakesIn : Session → Change → DiskState → Said → Type 0
MakesIn h change disk said = (image : Image) → IsRecoveredAs image h.base h.bins → Makes image change disk said

-- the change by these steps
abbrev pub MakesSteps : Option ℕ → Bool → Session → SetSteps → DiskState → Said → Type 0
MakesSteps current lenient h made disk said = MakesIn h (change_made current lenient (loaded_state h) made) disk said

-- the number names a set
abbrev pub usable_in : ℕ → Tree → Option ℕ
usable_in n t = if is_usable t n then Some n else None

-- the change by steps for the set of this number, or without a set
abbrev pub MakesFor : Option ℕ → Bool → Session → List Step → DiskState → Said → Type 0
MakesFor (Some n) lenient h steps disk said = MakesIn h (change_made (Some n) lenient (loaded_state h) (set_steps n steps)) disk said
MakesFor None lenient h steps disk said = MakesIn h (change_by None None (loaded_state h) [] (Err import_stops.NoControlSet)) disk said

-- the edits were made in a loaded hive
abbrev pub Changes : How → Session → List Step → DiskState → Said → Type 0
Changes how h steps disk said = MakesIn h (change_of how (loaded_state h) steps) disk said

-- the edits were made in the state that the image loads as
abbrev pub ChangesHeld : How → Image → List Step → DiskState → Said → Type 0
ChangesHeld how image steps disk said =
    (placed : Woken) × (Loads image placed.state placed.dirty) × Makes image (change_of how placed.state steps) disk said

-- no stop came
pub record IsQuiet (old new : DiskState) : Type 0 where
  pub cuts : new.cuts ≡ old.cuts
  pub faults : new.faults ≡ old.faults

-- the record of what was done from outside is as it was; where the work was done, no stop came
pub record Unmoved {A E : Type 0} (result : Result A E) (old new : DiskState) : Type 0 where
  pub history : new.history ≡ old.history
  pub quiet : OnOk result (IsQuiet old new)

-- the edits were made on a disk that was on, which was turned off then
pub record ChangesAwake {E : Type 0} (how : How) (steps : List Step) (result : Result Said E) (old new : DiskState) : Type 0 where
  pub late : DiskState
  pub changed : IfOk result (ChangesHeld how old.held steps late)
  pub unmoved : Unmoved result old late
  pub off : new ≡ turned_off late

-- the files were placed on a new disk, and the edits made there
abbrev pub IsImportOf : How → HiveFiles → List Step → DiskState → Said → Type 0
IsImportOf how files steps disk said =
    (placed : Woken) × (Loads (image_in files) placed.state placed.dirty) × (said ≡ (change_of how placed.state steps).said)
    × IsImported files (change_of how placed.state steps) 0 disk

-- that was done, or there was no memory for it
abbrev pub ImportsOn : {E : Type 0} → How → HiveFiles → List Step → Result Said E → DiskState → Type 0
ImportsOn how files steps (Ok said) disk = IsImportOf how files steps disk said
ImportsOn how files steps (Err e) disk = IsPartDone files 0 disk

-- ---- the end

-- the edits were made in the state that the hive's files load as, and a line was printed; or there was no memory for it
abbrev pub EndsEdits : HiveFiles → Saves → How → List Step → DiskState → Status → List ℕ → List ℕ → Type 0
EndsEdits files saves how steps disk status old new =
    ((placed : Woken) × (Loads (image_in files) placed.state placed.dirty)
    × EndsChange files saves how.form (change_of how placed.state steps) disk status old new)
    ⊎ ((status ≡ statuses.Memory) × (new ≡ old) × IsPartDone files 0 disk)

-- the image loads as some state, or this is its first fault
abbrev pub IsChecked : {T : Type 0} → Image → Result T ReadStop → Type 0
IsChecked image (Ok x) = (placed : Woken) × Loads image placed.state placed.dirty
IsChecked image (Err (read.Fault f)) = LoadFault image f
IsChecked image (Err read.Memory) = Unit {0}

-- the files load as some state
abbrev pub IsLoadable : HiveFiles → Type 0
IsLoadable files = (placed : Woken) × Loads (image_in files) placed.state placed.dirty

-- the text's fault is printed, and nothing was done to the disk; or its edits are made
abbrev pub EndsRead : HiveFiles → Saves → How → Result (List Step) RegFault → DiskState → Status → List ℕ → List ℕ → Type 0
EndsRead files saves how (Err fault) disk status old new = Ends (fault_answer fault) status old new × (disk ≡ new_state)
EndsRead files saves how (Ok steps) disk status old new = EndsEdits files saves how steps disk status old new

-- the fault of a text was printed
pub record TellsFault (fault : RegFault) (status : Status) (old new : HostState) : Type 0 where
  pub leaves : Leaves (Ends (fault_answer fault)) status old new
  pub files : KeepsFiles old new
  pub unasked : AsksNone old new
  pub told : IsToldAs statuses.RegFault status

-- what a text in one encoding or the other is read as: its edits, or its first fault, or there was no memory
abbrev pub GivesText : AskedEncoding → List ℕ → Result (List TreeStep) RegStop → Type 0
GivesText encoding text result = GivesSteps result (steps_in encoding text)

-- what follows the reading of the text leaves
abbrev pub DecidesEdits : HiveFiles → Saves → How → List Step → Status → HostState → HostState → DiskState → Type 0
DecidesEdits files saves how steps status old new disk = DecidesAlone (EndsEdits files saves how steps disk) saves status old new disk

-- what follows the getting of the text leaves
abbrev pub DecidesText : HiveFiles → Saves → How → List ℕ → Status → HostState → HostState → DiskState → Type 0
DecidesText files saves how text status old new disk =
    DecidesAlone (EndsRead files saves how (steps_in how.encoding text) disk) saves status old new disk

-- what follows the getting of the hive leaves, and which files it asks for; bad usage is no answer any more
pub record DecidesFile (files : HiveFiles) (saves : Saves) (how : How) (name : List ℕ) (status : Status) (old new : HostState) (disk : DiskState)
    : Type 0 where
  pub decides : Decides (EndsHive files saves how (file_in name (old.files name)) disk) saves status old new disk
  pub kept : status ≡ statuses.Usage → ⊥
  pub asks : AsksBehind files 0 status old.gets new.gets
