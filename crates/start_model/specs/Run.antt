-- What does the report of a script say, given what the disk woke up with and how its operations ended?
--
-- A run is the events in order. The script and the report are this project's own.
use Rattle.std.specs.Prelude.{ℕ, false, List, [], ◌∷◌, ◌++◌, Option, None, Some}
use Rattle.report_words.specs.declared.line.Line.{Line}
use Rattle.report_words.specs.declared.line.Line.TheVariants.{Verdict as VerdictLine, End as EndLine}
use Rattle.start_model.specs.Events.{Event}
use Rattle.start_model.specs.Machine.{Start, off_machine, ending_of}
use Rattle.start_model.specs.Possible.{Possible, Woken, loads_as, Outcome}
use Rattle.start_model.specs.Act.{RunState, Note, Woke, Ended, Act, done, say, ask, wake, mark}
use Rattle.start_model.specs.Boot.{Choice}
use Rattle.start_model.specs.EventActs.{event_step_of}

-- What came of a run, or of its first events: the lines; what happened beside them; what the disk may load as in the
-- end; and how it goes on, unless wakes or outcomes ran out.
pub record RunResult : Type 0 where
  pub lines : List Line
  pub notes : List Note
  pub disk : Possible
  pub rest : Option (RunState × List Woken × List Outcome)

-- the result of a run that needs a wake or an outcome and has none, with what the disk may load as then
abbrev pub ran_out : Possible → RunResult
ran_out disk = record { lines = []; notes = []; disk = disk; rest = None }

-- the result of a run that came to this state, with the wakes and outcomes that are left
abbrev pub reached : RunState → List Woken → List Outcome → RunResult
reached m wakes outcomes = record { lines = []; notes = []; disk = m.disk; rest = Some (m, wakes, outcomes) }

-- these lines and notes, and then the result
abbrev pub behind : List Line → List Note → RunResult → RunResult
behind lines notes r = record r { lines = lines ++ r.lines; notes = notes ++ r.notes }

-- an event over what the disk woke up with and how its operations ended
abbrev pub play : Act → List Woken → List Outcome → RunResult
play (done m) wakes outcomes = reached m wakes outcomes
play (say l act) wakes outcomes = behind (l ∷ []) [] (play act wakes outcomes)
play (ask disk next) wakes [] = ran_out disk
play (ask disk next) wakes (o ∷ outcomes) = behind [] (Ended o ∷ []) (play (next o) wakes outcomes)
play (wake disk next) [] outcomes = ran_out disk
play (wake disk next) (w ∷ wakes) outcomes = behind [] (Woke disk ∷ []) (play (next w) wakes outcomes)
play (mark note act) wakes outcomes = behind [] (note ∷ []) (play act wakes outcomes)

-- the first result, and after it what follows from its state; the first alone where it ran out
abbrev pub then_run : (RunState → List Woken → List Outcome → RunResult) → RunResult → Option (RunState × List Woken × List Outcome) → RunResult
then_run go first None = first
then_run go first (Some (m, wakes, outcomes)) = behind first.lines first.notes (go m wakes outcomes)

-- a start that still runs at the end of the script gets its verdict
abbrev pub verdict_first : Option Start → Act → Act
verdict_first None act = act
verdict_first (Some s) act = say (VerdictLine (ending_of s)) act

-- the end of the script commits nothing
abbrev pub closing_act : RunState → Act
closing_act m = verdict_first m.machine.start (say EndLine (done m))

-- the rest of a script, from a state on
abbrev pub run_from : (Option ℕ → Choice) → List Event → RunState → List Woken → List Outcome → RunResult
run_from choice [] m wakes outcomes = play (closing_act m) wakes outcomes
run_from choice (e ∷ es) m wakes outcomes =
    let first : RunResult = play (event_step_of choice e m) wakes outcomes in then_run (run_from choice es) first first.rest

-- before the first event: nothing runs, and the disk loads as the placed images do
abbrev pub first_state : Woken → RunState
first_state placed = record {
  machine = off_machine;
  live = placed.state.tree;
  sequence = placed.state.sequence;
  version = placed.state.version;
  changed = false;
  disk = loads_as placed;
  starts = 0;
}

-- what comes of a script, by the choice among the entries, what the placed images load as, what the wakes load as and
-- how the disk operations end
unfoldable pub run_of : (Option ℕ → Choice) → List Event → Woken → List Woken → List Outcome → RunResult
run_of choice script placed wakes outcomes = run_from choice script (first_state placed) wakes outcomes
