-- What does `diff` print? (this project's own)
--
-- The first obstacle decides: the first hive and its log, which are there and have no fault; then those of the second hive.
use Rattle.std.specs.Prelude.{◌≡◌, ◌⊎◌, ◌++◌, ℕ, true, List, Option, Some, None, Result, Ok, Err, IfOk, IfErr, codes}
use Rattle.std.specs.Fmt.{decimal}
use Rattle.nt_bytes.specs.declared.fault.HiveFault.{HiveFault}
use Rattle.nt_edge.specs.Disk.{new_state}
use Rattle.nt_edge.specs.Host.{Files, HostState, KeepsHost, KeepsFiles, IsUnsaid}
use Rattle.nt_edge.specs.declared.host.HostStop.TheVariants.{Write, Memory as NoMemory}
use Rattle.hive_model.specs.Image.{Image}
use Rattle.hive_model.specs.Load.{Loads, LoadFault}
use Rattle.hive_model.specs.Tree.{Tree}
use Rattle.start_model.specs.Possible.{Woken}
use Rattle.command_words.specs.Words.{DiffAsked}
use Rattle.command_parts.specs.declared.command_parts.inputs.HiveFiles.{HiveFiles}
use Rattle.command_parts.specs.declared.command_parts.refusal.Refusal.{Refusal}
use Rattle.command_parts.specs.declared.command_parts.refusal.Refusal.TheVariants.{HiveFault as BadHive}
use Rattle.command_parts.specs.declared.command_parts.refusal.Obstacle.{Obstacle}
use Rattle.command_parts.specs.declared.command_parts.refusal.Obstacle.TheVariants.{Refused, Stopped}
use Rattle.command_parts.specs.declared.command_parts.status.Status.{Status}
use Rattle.command_parts.specs.declared.command_parts.status.Status.TheVariants as statuses
use Rattle.command_parts.specs.command_parts.Decides.{Decides}
use Rattle.command_parts.specs.command_parts.Inputs.{hive_in}
use Rattle.command_parts.specs.command_parts.Kinds.{hive_kind_word}
use Rattle.command_parts.specs.command_parts.Leaves.{CountsObstacle, stop_in}
use Rattle.command_parts.specs.command_parts.Placed.{image_in}
use Rattle.command_parts.specs.command_parts.Refusals.{Answer, Ends, refusal}
use Rattle.command_parts.specs.command_parts.Saves.{no_saves}
use Rattle.report_text.specs.declared.line_text.form.ReportForm.{ReportForm}
use Rattle.set_commands.specs.declared.diff_command.command.Finding.{Finding}
use Rattle.set_commands.specs.diff_command.Compared.{same_answer, other_answer}

-- an answer that may be printed
abbrev pub Allowed : Type 1
Allowed = Answer → Type 0

-- a first fault of the first hive, and of the second
abbrev pub hive_fault : HiveFault → Answer
hive_fault fault = refusal (BadHive fault)

abbrev pub with_text : HiveFault → List ℕ
with_text fault = codes "with fault " ++ hive_kind_word fault.kind ++ codes " at " ++ decimal fault.at ++ codes "\n"

abbrev pub with_fault : HiveFault → Answer
with_fault fault = record { status = statuses.HiveFault; text = with_text fault }

abbrev pub IsWithFault : HiveFault → Allowed
IsWithFault fault answer = answer ≡ with_fault fault

-- the hive has a first fault, and that is the answer; or it loads as a state, and its tree allows the answer
abbrev pub IsOnImage : Image → (HiveFault → Answer) → (Tree → Allowed) → Allowed
IsOnImage image told rest answer =
    ((fault : HiveFault) × (LoadFault image fault) × (answer ≡ told fault))
    ⊎ ((placed : Woken) × (Loads image placed.state placed.dirty) × rest placed.state.tree answer)

-- the first obstacle is the answer, or the hive of these files allows it
abbrev pub IsOnFiles : Result HiveFiles Refusal → (HiveFault → Answer) → (Tree → Allowed) → Allowed
IsOnFiles (Err why) told rest answer = answer ≡ refusal why
IsOnFiles (Ok files) told rest answer = IsOnImage (image_in files) told rest answer

-- both sets of the hive with this tree
abbrev pub IsSame : ReportForm → DiffAsked → Tree → Allowed
IsSame form asked tree answer = answer ≡ same_answer form asked tree

-- the sets of two hives, of which the first has this tree
abbrev pub IsOther : ReportForm → DiffAsked → Tree → Tree → Allowed
IsOther form asked first second answer = answer ≡ other_answer form asked first second

-- after the first hive: the second one, where the command line names one, or else both sets of the first
abbrev pub IsSecondBy : ReportForm → DiffAsked → Files → Tree → Option (List ℕ) → Allowed
IsSecondBy form asked files first None answer = IsSame form asked first answer
IsSecondBy form asked files first (Some name) answer =
    IsOnFiles (hive_in files name asked.with_log) with_fault (IsOther form asked first) answer

abbrev pub IsSecond : ReportForm → DiffAsked → Files → Tree → Allowed
IsSecond form asked files first answer = IsSecondBy form asked files first asked.with answer

-- what the command line and the files allow
abbrev pub IsAnswer : ReportForm → DiffAsked → Files → Allowed
IsAnswer form asked files answer =
    IsOnFiles (hive_in files asked.hive asked.log) hive_fault (IsSecond form asked files) answer

-- an answer that is allowed is printed; or there was no memory or a read fault before anything was printed
abbrev pub EndsAllowed : Allowed → Status → List ℕ → List ℕ → Type 0
EndsAllowed is status old new =
    ((answer : Answer) × (is answer) × Ends answer status old new)
    ⊎ (((status ≡ statuses.Memory) ⊎ (status ≡ statuses.ReadFault)) × (new ≡ old))

-- of the command line and the files
abbrev pub EndsDiff : ReportForm → DiffAsked → Files → Status → List ℕ → List ℕ → Type 0
EndsDiff form asked files status old new = EndsAllowed (IsAnswer form asked files) status old new

-- what the command leaves: no file is changed, and no disk is there
abbrev pub DecidesDiff : ReportForm → DiffAsked → Status → HostState → HostState → Type 0
DecidesDiff form asked status old new = Decides (EndsDiff form asked old.files) no_saves status old new new_state

-- ---- a search for the answer

-- a text that is printed, with its status
abbrev pub finding_answer : Finding → Answer
finding_answer f = record { status = f.status; text = f.text }

-- what is found is allowed
abbrev pub AllowsResult : Allowed → Result Finding Obstacle → Type 0
AllowsResult is (Ok f) = is (finding_answer f)
AllowsResult is (Err (Refused why)) = is (refusal why)
AllowsResult is (Err (Stopped stop)) = Unit {0}

-- without a call of the host: what is found is allowed, with a status that is neither a stop of the environment nor bad usage; or there was no
-- memory
abbrev pub FindsBy : Allowed → Result Finding Obstacle → Type 0
FindsBy is (Ok f) = is (finding_answer f) × (stop_in f.status ≡ None) × (f.status ≡ statuses.Usage → ⊥)
FindsBy is (Err (Refused why)) = is (refusal why)
FindsBy is (Err (Stopped stop)) = stop ≡ NoMemory

-- with calls of the host: nothing was printed and no file changed
pub record SeeksBy (is : Files → Allowed) (result : Result Finding Obstacle) (old new : HostState) : Type 0 where
  pub keeps : KeepsHost old new
  pub files : KeepsFiles old new
  pub unsaid : IsUnsaid old new
  pub answers : old.tells ≡ true → AllowsResult (is old.files) result
  pub counts : CountsObstacle result old new
  pub unwritten : IfErr result (λ obstacle. obstacle ≡ Stopped Write → ⊥)
  pub ends : IfOk result (λ f. stop_in f.status ≡ None)
  pub used : IfOk result (λ f. f.status ≡ statuses.Usage → ⊥)
