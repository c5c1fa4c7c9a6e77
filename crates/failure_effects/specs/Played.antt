-- What does a start say of the entries that it takes, where at most one attempt fails? (this project's own)
--
-- Phases, plans, which entry is next, what is unmet and what follows from a failure are those of the book of startup.
use Rattle.std.specs.Prelude.{ℕ, zero, suc, Bool, true, false, List, [], ◌∷◌, ◌++◌, map, filter, length, Option, Some, None, option_map, if◌then◌else◌}
use Rattle.std.specs.Option.{option_map_or, option_or}
use Rattle.hive_model.specs.Tree.{Tree}
use Rattle.start_model.specs.Judge as book
use Rattle.start_model.specs.Machine as machine
use Rattle.start_model.specs.Machine.{Start, MachineState, off_machine, failing, attempt_of, after_phase, begun_with, with_start, ended}
use Rattle.boot_phases.specs.declared.error_control.outcome.Judgement.{Judgement}
use Rattle.boot_phases.specs.declared.error_control.outcome.Judgement.TheVariants as judgements
use Rattle.boot_machine.specs.boot_machine.Steps.{on_start}
use Rattle.failure_effects.specs.declared.told.Fate.{Fate}
use Rattle.failure_effects.specs.declared.told.Fate.TheVariants.{Started, Failed, Unmet}
use Rattle.failure_effects.specs.declared.told.Told.{Told}
use Rattle.failure_effects.specs.declared.course.Course.{Course}
use Rattle.failure_effects.specs.declared.opening.Taken.{Taken}

-- ---- what is reported of an entry

-- the judgement of the code that is the book's
abbrev pub judgement_as : book.Judgement → Judgement
judgement_as book.Ignore = judgements.Ignore
judgement_as book.Log = judgements.Log
judgement_as book.FallBack = judgements.FallBack
judgement_as book.Stop = judgements.Stop

-- what is reported of an attempt
abbrev pub told_of : machine.Tried → Told
told_of t = record { name = t.name; fate = if t.ok then Started else Failed (judgement_as t.judgement) }

-- what is reported of an entry that was never ready
abbrev pub left : List ℕ → Told
left name = record { name = name; fate = Unmet }

abbrev pub is_started : Fate → Bool
is_started Started = true
is_started (Failed judgement) = false
is_started Unmet = false

abbrev pub is_unmet : Fate → Bool
is_unmet Started = false
is_unmet (Failed judgement) = false
is_unmet Unmet = true

-- the names of the entries that were started
abbrev pub started_in : List Told → List (List ℕ)
started_in told = map (λ (t : Told). t.name) (filter (λ (t : Told). is_started t.fate) told)

-- the names of the entries that were never ready
abbrev pub unmet_in : List Told → List (List ℕ)
unmet_in told = map (λ (t : Told). t.name) (filter (λ (t : Told). is_unmet t.fate) told)

-- what follows from a failure, if this is one
abbrev pub failed_by : Fate → Option Judgement
failed_by Started = None
failed_by (Failed judgement) = Some judgement
failed_by Unmet = None

-- what follows from the first failure, if one is reported
abbrev pub failure_in : List Told → Option Judgement
failure_in [] = None
failure_in (t ∷ ts) = option_or (failed_by t.fate) (failure_in ts)

-- ---- one attempt

-- the first attempt of this name fails, where there is a name
abbrev pub noted : Option (List ℕ) → MachineState → MachineState
noted None m = m
noted (Some name) m = failing name 1 m

-- after a failure the start goes on, or is over
abbrev pub judged : book.Judgement → MachineState → MachineState
judged book.Ignore m = m
judged book.Log m = m
judged book.FallBack m = ended true m
judged book.Stop m = ended false m

-- an attempt is reported and judged
abbrev pub attempted : Course → MachineState × machine.Tried → Course
attempted c one = record { told = c.told ++ told_of one.1 ∷ []; machine = judged one.1.judgement one.0 }

-- the next attempt, if there is one; `usable`: LastKnownGood names a set
abbrev pub next_course : Bool → Course → Option Course
next_course usable c = option_map (attempted c) (attempt_of c.machine usable)

-- ---- the phases

-- at most that many attempts
unfoldable pub attempts_of : ℕ → Bool → Course → Course
attempts_of zero usable c = c
attempts_of (suc n) usable c = option_map_or (attempts_of n usable) (next_course usable c) c

-- how many entries wait, where a start runs
abbrev pub waiting_count : MachineState → ℕ
waiting_count m = option_map_or (λ (s : Start). length s.waiting) m.start 0

-- what still waits is unmet, and the next phase begins; of a start that is over nothing more is reported
abbrev pub phase_ended : Tree → Course → Course
phase_ended set c = record {
  told = c.told ++ map left (option_map_or machine.unmet_in c.machine.start []);
  machine = on_start (after_phase set) c.machine;
}

-- a phase to its end
unfoldable pub phase_played : Bool → Tree → Course → Course
phase_played usable set c = phase_ended set (attempts_of (waiting_count c.machine) usable c)

-- the three phases
abbrev pub played_on : Bool → Tree → Course → Course
played_on usable set c = phase_played usable set (phase_played usable set (phase_played usable set c))

-- ---- a start

-- the set as the start began with it is kept for a save alone, and none is asked for
abbrev pub without_clone : MachineState → MachineState
without_clone m = on_start (λ s. record s { clone = None }) m

-- a start on this set in its boot phase, with the failure that is to come
unfoldable pub begun : Taken → Tree → Option (List ℕ) → Course
begun taken set name = record {
  told = [];
  machine = without_clone (with_start (begun_with set taken.number taken.on_good) (noted name off_machine));
}

-- What is reported of a start on this set. The first attempt of the entry of this name fails, where there is a name, and each other
-- attempt goes well.
unfoldable pub played : Taken → Tree → Option (List ℕ) → List Told
played taken set name = (played_on taken.usable set (begun taken set name)).told
