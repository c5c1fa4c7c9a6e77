-- What does an event say that comes after others, on a disk without cuts and faults? (this project's own)
--
-- As in the quiet run of the book of startup: each wake is the settled state, and each operation is done.
use Rattle.std.specs.Prelude.{ℕ, List, [], ◌∷◌, ◌++◌, Option}
use Rattle.report_words.specs.declared.line.Line.{Line}
use Rattle.start_model.specs.Events.{Event}
use Rattle.start_model.specs.Act.{RunState}
use Rattle.start_model.specs.Boot.{Choice}
use Rattle.start_model.specs.EventActs.{event_step_of}
use Rattle.start_model.specs.Possible.{Woken}
use Rattle.start_model.specs.Quiet.{Quiet, quiet_play}
use Rattle.start_model.specs.Run.{first_state}

-- an event from a state on: its lines, and the state that it reaches
abbrev pub turn_of : (Option ℕ → Choice) → Event → RunState → Quiet
turn_of choice e m = quiet_play (event_step_of choice e m)

-- the state that events reach
abbrev pub state_after : (Option ℕ → Choice) → List Event → RunState → RunState
state_after choice [] m = m
state_after choice (e ∷ es) m = state_after choice es (turn_of choice e m).state

-- the lines that they say
abbrev pub lines_after : (Option ℕ → Choice) → List Event → RunState → List Line
lines_after choice [] m = []
lines_after choice (e ∷ es) m = (turn_of choice e m).lines ++ lines_after choice es (turn_of choice e m).state

-- the event after those before it, from what the hive loads as
abbrev pub swept_by : (Option ℕ → Choice) → List Event → Event → Woken → Quiet
swept_by choice before event placed = turn_of choice event (state_after choice before (first_state placed))
