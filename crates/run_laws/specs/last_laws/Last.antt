-- What is the last operation of a quiet run? (this project's own)
--
-- As in the quiet run of the book of startup each wake is the settled state, and each operation is done. An operation is known by what the disk
-- may load as until it ends: of a commit these are the state before it and the one after it.
use Rattle.std.specs.Prelude.{ℕ, List, [], ◌∷◌, Option, None, Some}
use Rattle.start_model.specs.Act.{Act, RunState, done, say, ask, wake, mark}
use Rattle.start_model.specs.Boot.{Choice}
use Rattle.start_model.specs.EventActs.{event_step_of}
use Rattle.start_model.specs.Events.{Event}
use Rattle.start_model.specs.Possible.{Possible, Woken, Finished}
use Rattle.start_model.specs.Quiet.{quiet_play, quiet_wake}
use Rattle.start_model.specs.Run.{first_state}

-- the last operation of an event; the one before it, where the event has none
abbrev pub last_in : Option Possible → Act → Option Possible
last_in before (done m) = before
last_in before (say l act) = last_in before act
last_in before (ask disk next) = last_in (Some disk) (next Finished)
last_in before (wake disk next) = last_in before (next (quiet_wake disk))
last_in before (mark note act) = last_in before act

-- the same of the rest of a script, from a state on; its closing lines have none
abbrev pub last_from : (Option ℕ → Choice) → List Event → RunState → Option Possible → Option Possible
last_from choice [] m before = before
last_from choice (e ∷ es) m before =
    let act : Act = event_step_of choice e m in last_from choice es (quiet_play act).state (last_in before act)

-- and of a script on a disk without cuts and faults
unfoldable pub last_of : (Option ℕ → Choice) → List Event → Woken → Option Possible
last_of choice script placed = last_from choice script (first_state placed) None
