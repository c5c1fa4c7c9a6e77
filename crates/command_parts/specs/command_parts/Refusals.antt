-- How is a refusal said, and how does a call end that has an answer to give? This project's own.
use Rattle.std.specs.Prelude.{◌≡◌, ◌⊎◌, ◌++◌, ℕ, Bool, true, false, List, Option, Some, None, codes}
use Rattle.std.specs.Fmt.{decimal}
use Rattle.nt_bytes.specs.Counts.{Rises}
use Rattle.nt_edge.specs.Host.{HostState, SaysFront}
use Rattle.nt_edge.specs.declared.host.HostStop.{HostStop}
use Rattle.nt_edge.specs.declared.host.HostStop.TheVariants.{Read, Write, Memory as NoMemory}
use Rattle.command_parts.specs.declared.command_parts.status.Status.{Status}
use Rattle.command_parts.specs.declared.command_parts.status.Status.TheVariants as statuses
use Rattle.command_parts.specs.declared.command_parts.refusal.Refusal.{Refusal}
use Rattle.command_parts.specs.declared.command_parts.refusal.Refusal.TheVariants.{Usage, NoFile, ScriptFault, NoSweep, IniTooLong, IniTooManyEntries, HiveFault as BadHive}
use Rattle.command_parts.specs.command_parts.Kinds.{script_kind_word, hive_kind_word}
use Rattle.command_parts.specs.command_parts.Leaves.{stop_in}

-- a status, and all that is printed with it
pub record Answer : Type 0 where
  pub status : Status
  pub text : List ℕ

-- ---- a refusal

abbrev pub refusal_text : Refusal → List ℕ
refusal_text Usage = codes "bad usage\n"
refusal_text (NoFile name) = codes "no file " ++ name ++ codes "\n"
refusal_text (ScriptFault fault) = codes "script fault " ++ decimal fault.line ++ codes " " ++ script_kind_word fault.kind ++ codes "\n"
refusal_text NoSweep = codes "script fault 0 sweep\n"
refusal_text IniTooLong = codes "boot.ini fault too-long\n"
refusal_text IniTooManyEntries = codes "boot.ini fault too-many-entries\n"
refusal_text (BadHive fault) = codes "hive fault " ++ hive_kind_word fault.kind ++ codes " at " ++ decimal fault.at ++ codes "\n"

abbrev pub refusal_status : Refusal → Status
refusal_status Usage = statuses.Usage
refusal_status (NoFile name) = statuses.NoFile
refusal_status (ScriptFault fault) = statuses.ScriptFault
refusal_status NoSweep = statuses.ScriptFault
refusal_status IniTooLong = statuses.BootIniFault
refusal_status IniTooManyEntries = statuses.BootIniFault
refusal_status (BadHive fault) = statuses.HiveFault

abbrev pub refusal : Refusal → Answer
refusal r = record { status = refusal_status r; text = refusal_text r }

-- its line is constant: it has no number and no name, so it takes no memory of the program's own
abbrev pub needs_no_memory : Refusal → Bool
needs_no_memory Usage = true
needs_no_memory (NoFile name) = false
needs_no_memory (ScriptFault fault) = false
needs_no_memory NoSweep = true
needs_no_memory IniTooLong = true
needs_no_memory IniTooManyEntries = true
needs_no_memory (BadHive fault) = false

-- ---- how a call ends

-- this status, or that of a stop while something was printed
abbrev pub IsToldAs : Status → Status → Type 0
IsToldAs told status = (status ≡ told) ⊎ ((status ≡ statuses.WriteFault) ⊎ (status ≡ statuses.Memory))

-- there was no memory only where the host refused a call for lack of it
abbrev pub LacksAsHost : Status → HostState → HostState → Type 0
LacksAsHost status old new = status ≡ statuses.Memory → Rises old.lacks new.lacks

-- where the environment stopped, nothing was printed at a read fault, and else a prefix of the text
abbrev pub StopsBy : Option HostStop → List ℕ → List ℕ → List ℕ → Type 0
StopsBy None text old new = ⊥
StopsBy (Some Read) text old new = new ≡ old
StopsBy (Some Write) text old new = SaysFront old new text
StopsBy (Some NoMemory) text old new = SaysFront old new text

-- the status and what was printed are the answer's, or the environment stopped
abbrev pub Ends : Answer → Status → List ℕ → List ℕ → Type 0
Ends answer status old new = ((status ≡ answer.status) × (new ≡ old ++ answer.text)) ⊎ StopsBy (stop_in status) answer.text old new
