-- What does a step of the starter do?
--
-- The order of a start is that of Windows Internals, 4th edition, startup; the lines are this project's own.
use Rattle.std.specs.Prelude.{ℕ, zero, suc, ◌+◌, Bool, true, false, if◌then◌else◌, List, [], ◌∷◌, map, length, Option, None, Some, codes}
use Rattle.std.specs.Option.{unwrap_or, option_map_or}
use Rattle.hive_model.specs.Tree.{Tree, key, none, children, find_key}
use Rattle.report_words.specs.declared.words.Verdict.TheVariants as verdicts
use Rattle.report_words.specs.declared.words.PhaseWord.TheVariants as phases
use Rattle.report_words.specs.declared.words.TryWord.{TryWord}
use Rattle.report_words.specs.declared.words.TryWord.TheVariants as tries
use Rattle.report_words.specs.declared.line.Line.{Line}
use Rattle.report_words.specs.declared.line.Line.TheVariants.{Phase as PhaseLine, Try as TryLine, Unmet as UnmetLine, Vital as VitalLine}
use Rattle.start_model.specs.Judge.{Judgement, Ignore, Log, FallBack, Stop}
use Rattle.start_model.specs.Sets.{select_numbers_of, is_usable, set_of}
use Rattle.start_model.specs.Entries.{Phase, Boot, System, Automatic, Done}
use Rattle.start_model.specs.Machine.{Start, MachineState, Tried, attempt_of, unmet_in, missing_in, after_phase, is_done, with_start}
use Rattle.start_model.specs.Act.{RunState, Act, done, say, say_all, with_machine, end_with}
use Rattle.start_model.specs.Commit.{save_where_due}

-- a key with nothing, in the place of a set that is not there
abbrev pub no_set : Tree
no_set = key (record { name = []; flags = 0; stamp = 0; class = []; security = []; values = [] }) none

-- the set of a number in the live tree; the taken one is always there
abbrev pub live_set : RunState → ℕ → Tree
live_set m number = unwrap_or (set_of m.live number) no_set

-- LastKnownGood names a set of the live tree
abbrev pub good_is_usable : Tree → Bool
good_is_usable live = is_usable live (select_numbers_of live).good

-- the line of a phase that begins
abbrev pub phase_line : Phase → Line
phase_line Boot = PhaseLine phases.Boot
phase_line System = PhaseLine phases.System
phase_line Automatic = PhaseLine phases.Automatic
phase_line Done = PhaseLine phases.Done

-- the words of a failed attempt, by its judgement
abbrev pub failed_word : Judgement → TryWord
failed_word Ignore = tries.Ignored
failed_word Log = tries.Logged
failed_word FallBack = tries.FallBack
failed_word Stop = tries.Stop

-- the line of an attempt
abbrev pub try_line : Tried → Line
try_line t = TryLine t.name (if t.ok then tries.Ok else failed_word t.judgement)

-- after an attempt the run goes on, or the start ends
abbrev pub judged : Judgement → RunState → (RunState → Act) → Act
judged Ignore m next = next m
judged Log m next = next m
judged FallBack m next = end_with verdicts.FallBack true m
judged Stop m next = end_with verdicts.Stopped false m

-- the next phase begins, and a start that became good by that is saved
abbrev pub phase_begun : Start → RunState → (RunState → Act) → Act
phase_begun s m next =
    let after : Start = after_phase (live_set m s.number) s in
    say (phase_line after.phase) (save_where_due (Some after) (with_machine (with_start after m.machine) m) next)

-- the next phase begins where no vital name is missing; else each that is has its line, and the start stops
abbrev pub phase_passed : Start → RunState → (RunState → Act) → List (List ℕ) → Act
phase_passed s m next [] = phase_begun s m next
phase_passed s m next (name ∷ names) = say_all (map VitalLine (name ∷ names)) (end_with verdicts.Stopped false m)

-- the phase is at its end: what still waits is unmet, and the next one begins unless a vital name is missing
abbrev pub phase_step : Start → RunState → (RunState → Act) → Act
phase_step s m next = say_all (map UnmetLine (unmet_in s)) (phase_passed s m next (missing_in m.machine.vital s))

-- an attempt that was made is printed and judged; where there is none, the phase ends
abbrev pub starter_step : Start → RunState → (RunState → Act) → Option (MachineState × Tried) → Act
starter_step s m next (Some one) = say (try_line one.1) (judged one.1.judgement (with_machine one.0 m) next)
starter_step s m next None = phase_step s m next

-- one step of the starter where a start runs and is not done
abbrev pub stepping : Option Start → RunState → (RunState → Act) → Act
stepping None m next = done m
stepping (Some s) m next =
    if is_done s.phase then done m else starter_step s m next (attempt_of m.machine (good_is_usable m.live))

-- at most that many steps of the starter
unfoldable pub go_steps : ℕ → RunState → Act
go_steps zero m = done m
go_steps (suc n) m = stepping m.machine.start m (go_steps n)

-- that many steps are enough for all that a start can still do
abbrev pub enough_steps : Option Start → RunState → ℕ
enough_steps None m = 0
enough_steps (Some s) m = length s.waiting + length (option_map_or children (find_key (codes "Services" ∷ []) (live_set m s.number)) []) + 3

-- that many steps of the starter, or without a number all that there can be
abbrev pub go_act : Option ℕ → RunState → Act
go_act (Some n) m = go_steps n m
go_act None m = go_steps (enough_steps m.machine.start m) m
