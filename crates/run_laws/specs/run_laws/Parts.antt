-- What came of the first events of a script? (this project's own)
use Rattle.std.specs.Prelude.{ℕ, List, [], ◌∷◌, Option}
use Rattle.start_model.specs.Events.{Event}
use Rattle.start_model.specs.Possible.{Woken, Outcome}
use Rattle.start_model.specs.Act.{RunState}
use Rattle.start_model.specs.Boot.{Choice}
use Rattle.start_model.specs.EventActs.{event_step_of}
use Rattle.start_model.specs.Run.{RunResult, play, then_run, reached, closing_act}

-- the events in order, and then what `last` makes of it
abbrev pub run_until : (RunState → List Woken → List Outcome → RunResult) → (Option ℕ → Choice) → List Event → RunState → List Woken → List Outcome → RunResult
run_until last choice [] m wakes outcomes = last m wakes outcomes
run_until last choice (e ∷ es) m wakes outcomes =
    let first : RunResult = play (event_step_of choice e m) wakes outcomes in then_run (run_until last choice es) first first.rest

-- the events alone: the script goes on after them
abbrev pub part_of : (Option ℕ → Choice) → List Event → RunState → List Woken → List Outcome → RunResult
part_of choice es m wakes outcomes = run_until reached choice es m wakes outcomes

-- the end of the script, in this state
abbrev pub ended : RunState → List Woken → List Outcome → RunResult
ended m wakes outcomes = play (closing_act m) wakes outcomes
