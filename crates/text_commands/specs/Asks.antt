-- How many files does `import` ask for? (this project's own)
--
-- The hive and its log, up to the first obstacle; and after them one more, the text, exactly where the hive has no fault.
use Rattle.std.specs.Prelude.{◌≡◌, ◌⊎◌, ◌+◌, ℕ, true, Result, Ok, Err}
use Rattle.nt_bytes.specs.declared.fault.HiveFault.{HiveFault}
use Rattle.hive_model.specs.Load.{Loads, LoadFault}
use Rattle.nt_edge.specs.Host.{HostState}
use Rattle.start_model.specs.Possible.{Woken}
use Rattle.command_words.specs.Words.{ImportAsked}
use Rattle.command_parts.specs.declared.command_parts.inputs.HiveFiles.{HiveFiles}
use Rattle.command_parts.specs.declared.command_parts.refusal.Refusal.{Refusal as Why}
use Rattle.command_parts.specs.declared.command_parts.status.Status.{Status}
use Rattle.command_parts.specs.declared.command_parts.status.Status.TheVariants as statuses
use Rattle.command_parts.specs.command_parts.Inputs.{hive_in, asks_hive}
use Rattle.command_parts.specs.command_parts.Leaves.{AsksBy, stop_in}
use Rattle.command_parts.specs.command_parts.Placed.{image_in}

-- After that many files: the hive has a first fault, and no more is asked for; or it loads as a state, and the text is asked for too;
-- or the environment stopped while the hive was got or checked. Each up to the stop that the status says.
abbrev pub AsksBehind : HiveFiles → ℕ → Status → ℕ → ℕ → Type 0
AsksBehind files before status old new =
    ((fault : HiveFault) × (LoadFault (image_in files) fault) × AsksBy before (stop_in status) old new)
    ⊎ (((placed : Woken) × (Loads (image_in files) placed.state placed.dirty) × AsksBy (before + 1) (stop_in status) old new)
    ⊎ (((status ≡ statuses.Memory) ⊎ (status ≡ statuses.ReadFault)) × AsksBy before (stop_in status) old new))

-- the same where hive and log are there; nothing after them is asked for where one is absent
abbrev pub AsksText : Result HiveFiles Why → ℕ → Status → ℕ → ℕ → Type 0
AsksText (Err r) before status old new = AsksBy before (stop_in status) old new
AsksText (Ok files) before status old new = AsksBehind files before status old new

-- of the command line
abbrev pub AsksImport : ImportAsked → Status → HostState → HostState → Type 0
AsksImport words status old new =
    old.tells ≡ true → AsksText (hive_in old.files words.hive words.log) (asks_hive old.files words.hive words.log) status old.gets new.gets
