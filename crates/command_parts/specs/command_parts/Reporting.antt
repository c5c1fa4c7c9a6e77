-- How does a command end that prints a report and then puts a file? This project's own.
--
-- The first obstacle is printed, and no file changes; or the report is printed, and then its file is put under the name that the
-- command line has for it, where it is to be saved.
use Rattle.std.specs.Prelude.{◌≡◌, ◌⊎◌, ◌++◌, ℕ, Bool, true, false, List, Option, Some, None, Result, Ok, Err, if◌then◌else◌}
use Rattle.nt_edge.specs.Host.{Files, HostState, Puts, KeepsOthers, AsksNone}
use Rattle.command_parts.specs.declared.command_parts.refusal.Refusal.{Refusal}
use Rattle.command_parts.specs.declared.command_parts.reporting.FileReport.{FileReport}
use Rattle.command_parts.specs.declared.command_parts.status.Status.{Status}
use Rattle.command_parts.specs.declared.command_parts.status.Status.TheVariants as statuses
use Rattle.command_parts.specs.command_parts.Leaves.{Leaves, stop_in}
use Rattle.command_parts.specs.command_parts.Refusals.{Answer, Ends, StopsBy, IsToldAs, LacksAsHost, refusal}

-- its text with its status: something was found, or all was done
abbrev pub report_answer : FileReport → Answer
report_answer report = record { status = if report.found then statuses.Found else statuses.Done; text = report.text }

-- the file was put under a name; or it was stopped, and no other file changed
abbrev pub EndsPut : Status → List ℕ → List ℕ → Files → Files → Status → Type 0
EndsPut told name file before after status =
    ((status ≡ told) × Puts before after name file)
    ⊎ (((status ≡ statuses.WriteFault) ⊎ (status ≡ statuses.Memory)) × KeepsOthers before after name)

-- The whole text was printed, and then the file put; or the environment stopped before, and no file changed.
abbrev pub EndsSaved : Answer → List ℕ → List ℕ → Files → Files → Status → List ℕ → List ℕ → Type 0
EndsSaved answer name file before after status old new =
    ((new ≡ old ++ answer.text) × EndsPut answer.status name file before after status)
    ⊎ (StopsBy (stop_in status) answer.text old new × (after ≡ before))

-- the same where the options may name no file, and the report may have none to save
abbrev pub EndsTold : Bool → Option (List ℕ) → Answer → List ℕ → Files → Files → Status → List ℕ → List ℕ → Type 0
EndsTold true (Some name) answer file before after status old new = EndsSaved answer name file before after status old new
EndsTold false (Some name) answer file before after status old new = Ends answer status old new × (after ≡ before)
EndsTold saved None answer file before after status old new = Ends answer status old new × (after ≡ before)

-- The first obstacle is printed, and no file changed; or the report is printed, and its file put under this name where it is saved.
abbrev pub EndsReport : Result FileReport Refusal → Option (List ℕ) → Files → Files → Status → List ℕ → List ℕ → Type 0
EndsReport (Err r) name before after status old new = Ends (refusal r) status old new × (after ≡ before)
EndsReport (Ok report) name before after status old new =
    EndsTold report.saved name (report_answer report) report.file before after status old new

-- the host is left so by the whole command
abbrev pub DecidesReport : Result FileReport Refusal → Option (List ℕ) → Status → HostState → HostState → Type 0
DecidesReport wanted name status old new = Leaves (EndsReport wanted name old.files new.files) status old new

-- ---- its steps

-- a file was put, or that was stopped: nothing was printed and no file asked for, and there was no memory only where the host refused to put it
-- for lack of memory
pub record PutsFile (wanted : Status) (name file : List ℕ) (status : Status) (old new : HostState) : Type 0 where
  pub leaves : Leaves (λ s before after. (after ≡ before) × EndsPut wanted name file old.files new.files s) status old new
  pub unasked : AsksNone old new
  pub told : IsToldAs wanted status
  pub own : LacksAsHost status old new

-- the report was printed, and the file put where it is saved: no file was asked for, and there was no memory only where the host refused one of
-- the two for lack of memory
pub record FinishesReport (saved : Bool) (name : Option (List ℕ)) (answer : Answer) (file : List ℕ) (status : Status) (old new : HostState)
    : Type 0 where
  pub leaves : Leaves (EndsTold saved name answer file old.files new.files) status old new
  pub unasked : AsksNone old new
  pub told : IsToldAs answer.status status
  pub own : LacksAsHost status old new
