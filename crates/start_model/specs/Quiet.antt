-- What does a script say on a disk without cuts and faults?
--
-- In the quiet run each wake is the settled state, and each operation is done. It is this project's own.
use Rattle.std.specs.Prelude.{ℕ, false, List, [], ◌∷◌, ◌++◌, Option}
use Rattle.std.specs.Option.{unwrap_or}
use Rattle.report_words.specs.declared.line.Line.{Line}
use Rattle.start_model.specs.Events.{Event}
use Rattle.start_model.specs.Possible.{Possible, Woken, Finished}
use Rattle.start_model.specs.Act.{RunState, Act, done, say, ask, wake, mark}
use Rattle.start_model.specs.Boot.{Choice}
use Rattle.start_model.specs.EventActs.{event_step_of}
use Rattle.start_model.specs.Run.{closing_act, first_state}

-- the lines, and the state that it came to
pub record Quiet : Type 0 where
  pub lines : List Line
  pub state : RunState

-- the lines, and then what follows
abbrev pub quiet_behind : List Line → Quiet → Quiet
quiet_behind lines q = record q { lines = lines ++ q.lines }

-- the disk wakes up as the settled state, with the log in use where that is certain
abbrev pub quiet_wake : Possible → Woken
quiet_wake disk = record { state = disk.settled; dirty = unwrap_or disk.dirty false }

-- an event where each wake is the settled state and each operation is done
abbrev pub quiet_play : Act → Quiet
quiet_play (done m) = record { lines = []; state = m }
quiet_play (say l act) = quiet_behind (l ∷ []) (quiet_play act)
quiet_play (ask disk next) = quiet_play (next Finished)
quiet_play (wake disk next) = quiet_play (next (quiet_wake disk))
quiet_play (mark note act) = quiet_play act

-- the rest of a script, played so from a state on
abbrev pub quiet_from : (Option ℕ → Choice) → List Event → RunState → Quiet
quiet_from choice [] m = quiet_play (closing_act m)
quiet_from choice (e ∷ es) m =
    let first : Quiet = quiet_play (event_step_of choice e m) in quiet_behind first.lines (quiet_from choice es first.state)

-- a script on a disk without cuts and faults
unfoldable pub quiet_run_of : (Option ℕ → Choice) → List Event → Woken → Quiet
quiet_run_of choice script placed = quiet_from choice script (first_state placed)
