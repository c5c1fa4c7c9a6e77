-- How does a command end that answers by what a hive loads as? This project's own.
--
-- The first obstacle decides, and then the hive with its log, which has a first fault or is what the answer is about.
use Rattle.std.specs.Prelude.{◌≡◌, ◌⊎◌, ℕ, true, List, Result, Ok, Err, IfErr, if◌then◌else◌}
use Rattle.nt_bytes.specs.declared.fault.HiveFault.{HiveFault}
use Rattle.nt_edge.specs.Host.{HostState, KeepsHost, KeepsFiles, IsUnsaid}
use Rattle.nt_edge.specs.Disk.{new_state}
use Rattle.nt_edge.specs.declared.host.HostStop.TheVariants.{Write, Memory as NoMemory}
use Rattle.hive_model.specs.Image.{Image}
use Rattle.hive_model.specs.Load.{Loads, LoadFault}
use Rattle.start_model.specs.Possible.{Woken}
use Rattle.command_parts.specs.declared.command_parts.answering.Told.{Told}
use Rattle.command_parts.specs.declared.command_parts.status.Status.{Status}
use Rattle.command_parts.specs.declared.command_parts.status.Status.TheVariants as statuses
use Rattle.command_parts.specs.declared.command_parts.refusal.Refusal.{Refusal}
use Rattle.command_parts.specs.declared.command_parts.refusal.Refusal.TheVariants.{HiveFault as BadHive}
use Rattle.command_parts.specs.declared.command_parts.refusal.Obstacle.{Obstacle}
use Rattle.command_parts.specs.declared.command_parts.refusal.Obstacle.TheVariants.{Refused, Stopped}
use Rattle.command_parts.specs.command_parts.Decides.{Decides}
use Rattle.command_parts.specs.command_parts.Leaves.{CountsObstacle}
use Rattle.command_parts.specs.command_parts.Refusals.{Answer, Ends, refusal}
use Rattle.command_parts.specs.command_parts.Saves.{no_saves}

-- what a command asks of a hive: the image of its files, and the answer by what that loads as
pub record Question : Type 0 where
  pub image : Image
  pub answer : Woken → Answer

-- a report's text with its status: something was found, or all was done
abbrev pub told_answer : Told → Answer
told_answer told = record { status = if told.found then statuses.Found else statuses.Done; text = told.text }

-- The first obstacle is printed. Without one the hive has a first fault, and that is printed; or it loads as a state, and the
-- answer to that is printed; or there was no memory or a read fault before anything was printed.
abbrev pub EndsOnHive : Result Question Refusal → Status → List ℕ → List ℕ → Type 0
EndsOnHive (Err r) status old new = Ends (refusal r) status old new
EndsOnHive (Ok q) status old new =
    ((fault : HiveFault) × (LoadFault q.image fault) × Ends (refusal (BadHive fault)) status old new)
    ⊎ (((placed : Woken) × (Loads q.image placed.state placed.dirty) × Ends (q.answer placed) status old new)
    ⊎ (((status ≡ statuses.Memory) ⊎ (status ≡ statuses.ReadFault)) × (new ≡ old)))

-- the answer to what the hive loads as, or its first fault, or there was no memory
abbrev pub AnswersOnHive : Question → Result Told Obstacle → Type 0
AnswersOnHive q (Ok told) = (placed : Woken) × (Loads q.image placed.state placed.dirty) × (told_answer told ≡ q.answer placed)
AnswersOnHive q (Err (Refused r)) = (fault : HiveFault) × (LoadFault q.image fault) × (r ≡ BadHive fault)
AnswersOnHive q (Err (Stopped stop)) = stop ≡ NoMemory

-- the same after a search for the files: the first obstacle, or the answer where there is none
abbrev pub AnswersAfter : Result Question Refusal → Result Told Obstacle → Type 0
AnswersAfter wanted (Ok told) = (q : Question) × (wanted ≡ Ok q) × AnswersOnHive q (Ok told)
AnswersAfter wanted (Err (Refused r)) = (wanted ≡ Err r) ⊎ ((q : Question) × (wanted ≡ Ok q) × AnswersOnHive q (Err (Refused r)))
AnswersAfter wanted (Err (Stopped stop)) = Unit {0}

-- a search of the files and what was read of them: nothing was printed and no file changed
pub record SeeksAnswer (wanted : Result Question Refusal) (result : Result Told Obstacle) (old new : HostState) : Type 0 where
  pub keeps : KeepsHost old new
  pub files : KeepsFiles old new
  pub unsaid : IsUnsaid old new
  pub answers : old.tells ≡ true → AnswersAfter wanted result
  pub counts : CountsObstacle result old new
  pub unwritten : IfErr result (λ obstacle. obstacle ≡ Stopped Write → ⊥)

-- of the whole command; no file is changed, and no disk is there
abbrev pub DecidesOnHive : Result Question Refusal → Status → HostState → HostState → Type 0
DecidesOnHive wanted status old new = Decides (EndsOnHive wanted) no_saves status old new new_state
