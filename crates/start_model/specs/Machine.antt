-- What is a start that runs, and what does one step of it do?
--
-- The phases, ErrorControl and the fallback on LastKnownGood: Windows Internals, 4th edition, startup. That attempts go
-- one at a time, that failures are announced in advance, and which events are refused, is this project's own.
use Rattle.std.specs.Prelude.{ℕ, ◌-◌, Bool, true, false, ◌||◌, ◌&&◌, not, ◌==◌, if◌then◌else◌, List, [], ◌∷◌, ◌++◌, map, filter, slice_get, remove, Option, None, Some, option_map, option_and_then}
use Rattle.std.specs.List.{list_any}
use Rattle.nt_bytes.specs.Folding.{folded, folds_same}
use Rattle.hive_model.specs.Tree.{Tree}
use Rattle.start_model.specs.Ready.{Label, has_name, next_of}
use Rattle.start_model.specs.Judge.{Judgement, Ignore, judgement_of}
use Rattle.start_model.specs.Entries.{Entry, Phase, Boot, System, Automatic, Done, need_of}
use Rattle.start_model.specs.Order.{plan_of}
use Rattle.start_model.specs.Events.{Event, BootNow, Go, Fail, Vital, Edits, Flush, Logon, Off, CutNow, Arm, is_protected}
use Rattle.report_words.specs.declared.words.Verdict.{Verdict}
use Rattle.report_words.specs.declared.words.Verdict.TheVariants.{Good, GoodUnsaved, Running}
use Rattle.report_words.specs.declared.words.RefusedWord.{RefusedWord}
use Rattle.report_words.specs.declared.words.RefusedWord.TheVariants as reasons

-- a start that runs
pub record Start : Type 0 where
  -- the number of the set that it took
  pub number : ℕ
  -- it took LastKnownGood
  pub on_good : Bool
  pub phase : Phase
  -- the entries of the phase that were not attempted, in their order
  pub waiting : List Entry
  -- the folded names that were attempted
  pub tried : List (List ℕ)
  pub started : List Label
  pub logged_on : Bool
  -- whether the good start was saved; none where it was not tried yet
  pub saved : Option Bool
  -- the set as the start began with it, until it is saved
  pub clone : Option Tree

-- the machine: a start that runs, the attempts that are to fail, whether the next start falls back, and the names without
-- which no start passes its boot phase, as the script has them
pub record MachineState : Type 0 where
  pub start : Option Start
  pub failures : List (List ℕ × ℕ)
  pub fallback_due : Bool
  pub vital : List (List ℕ)

-- a machine that is off, with nothing noted
abbrev pub off_machine : MachineState
off_machine = record { start = None; failures = []; fallback_due = false; vital = [] }

-- ---- failures to come, by folded name

-- how many attempts of a name are still to fail; 0 where nothing is noted
abbrev pub failures_of : List (List ℕ × ℕ) → List ℕ → ℕ
failures_of [] name = 0
failures_of (f ∷ fs) name = if folds_same f.0 name then f.1 else failures_of fs name

-- one fewer for a name
abbrev pub one_failure_less : List (List ℕ × ℕ) → List ℕ → List (List ℕ × ℕ)
one_failure_less [] name = []
one_failure_less (f ∷ fs) name = if folds_same f.0 name then (f.0, f.1 - 1) ∷ fs else f ∷ one_failure_less fs name

-- that many for a name, in place of an earlier number
abbrev pub with_failures : List (List ℕ × ℕ) → List ℕ → ℕ → List (List ℕ × ℕ)
with_failures [] name count = (folded name, count) ∷ []
with_failures (f ∷ fs) name count = if folds_same f.0 name then (f.0, count) ∷ fs else f ∷ with_failures fs name count

-- the machine with that many failures noted for a name
abbrev pub failing : List ℕ → ℕ → MachineState → MachineState
failing name count m = record m { failures = with_failures m.failures name count }

-- ---- the vital names

-- at the end, as it is written, unless a name that folds the same stands there
abbrev pub with_vital : List (List ℕ) → List ℕ → List (List ℕ)
with_vital names name = if list_any (folds_same name) names then names else names ++ name ∷ []

-- the machine with one more vital name
abbrev pub requiring : List ℕ → MachineState → MachineState
requiring name m = record m { vital = with_vital m.vital name }

-- the phase is the first one
abbrev pub is_boot : Phase → Bool
is_boot Boot = true
is_boot System = false
is_boot Automatic = false
is_boot Done = false

-- the vital names that the boot phase of a start ends without, in their order; a later phase asks for none
abbrev pub missing_in : List (List ℕ) → Start → List (List ℕ)
missing_in vital s = if is_boot s.phase then filter (λ name. not (has_name s.started name)) vital else []

-- ---- an attempt

-- what came of an attempt
pub record Tried : Type 0 where
  pub name : List ℕ
  pub ok : Bool
  pub judgement : Judgement

-- the place among the waiting of the next attempt; none where the phase is at its end
abbrev pub next_in : Start → Option ℕ
next_in s = next_of s.started (map need_of s.waiting)

-- what is kept of a started entry: its folded name, and its folded group where it has one
abbrev pub label_of : Entry → Label
label_of e = (folded e.name, option_map folded e.group)

-- the start after an attempt: the entry waits no more, its name was tried, and it was started where the attempt went
-- well
abbrev pub after_attempt : Start → ℕ → Entry → Bool → Start
after_attempt s place e ok = record s {
  waiting = remove s.waiting place;
  tried = s.tried ++ folded e.name ∷ [];
  started = if ok then s.started ++ label_of e ∷ [] else s.started;
}

-- the attempt of the waiting entry at a place: it fails where failures of its name are to come, of which there is
-- then one fewer
abbrev pub attempt_at : MachineState → Start → Bool → ℕ → Entry → MachineState × Tried
attempt_at m s usable place e =
    let ok : Bool = failures_of m.failures e.name == 0 in (
      record m { start = Some (after_attempt s place e ok); failures = one_failure_less m.failures e.name },
      record { name = e.name; ok = ok; judgement = if ok then Ignore else judgement_of e.control s.on_good usable },
    )

-- the first ready entry is attempted; `usable` says whether LastKnownGood names a set of the live tree
abbrev pub attempt_in : MachineState → Start → Bool → Option (MachineState × Tried)
attempt_in m s usable = option_and_then (λ place. option_map (attempt_at m s usable place) (slice_get s.waiting place)) (next_in s)

-- an attempt of the running start; none where no start runs, or its phase is at its end
unfoldable pub attempt_of : MachineState → Bool → Option (MachineState × Tried)
attempt_of m usable = option_and_then (λ s. attempt_in m s usable) m.start

-- ---- a change of phase

-- the next phase; after the last stands the last
abbrev pub phase_after : Phase → Phase
phase_after Boot = System
phase_after System = Automatic
phase_after Automatic = Done
phase_after Done = Done

-- the names of the entries that still wait, in their order
abbrev pub unmet_in : Start → List (List ℕ)
unmet_in s = map (λ e. e.name) s.waiting

-- the next phase takes its entries from the set as it is then
abbrev pub after_phase : Tree → Start → Start
after_phase set s = record s { phase = phase_after s.phase; waiting = plan_of set (phase_after s.phase) s.tried }

-- ---- the beginning, the logon, the save, the end

-- a start that begins: in its boot phase, with the entries that this takes of the set, nothing tried or started, and
-- the set as its clone
abbrev pub begun_with : Tree → ℕ → Bool → Start
begun_with set number on_good = record {
  number = number;
  on_good = on_good;
  phase = Boot;
  waiting = plan_of set Boot [];
  tried = [];
  started = [];
  logged_on = false;
  saved = None;
  clone = Some set;
}

-- the phase is the last one
abbrev pub is_done : Phase → Bool
is_done Done = true
is_done Boot = false
is_done System = false
is_done Automatic = false

-- the automatic phase begins the time in which a user may log on
abbrev pub takes_logons : Phase → Bool
takes_logons Boot = false
takes_logons System = false
takes_logons Automatic = true
takes_logons Done = true

-- a start is good once the automatic phase is done and a user has logged on
abbrev pub is_good : Start → Bool
is_good s = is_done s.phase && s.logged_on

-- a good start that was not yet tried to be saved
abbrev pub save_due : Start → Bool
save_due s = is_good s && is_unsaved s.saved
  where
    is_unsaved : Option Bool → Bool
    is_unsaved None = true
    is_unsaved (Some done) = false

-- the verdict of a good start: good where its save was done, else good but unsaved
abbrev pub ending_with : Option Bool → Verdict
ending_with None = GoodUnsaved
ending_with (Some true) = Good
ending_with (Some false) = GoodUnsaved

-- the verdict of a start that ends by switching off, or with the script
abbrev pub ending_of : Start → Verdict
ending_of s = if is_good s then ending_with s.saved else Running

-- no start runs; a fallback is due where this one falls back, or one was due before
abbrev pub ended : Bool → MachineState → MachineState
ended falls_back m = record m { start = None; fallback_due = m.fallback_due || falls_back }

-- the machine with this start running
abbrev pub with_start : Start → MachineState → MachineState
with_start s m = record m { start = Some s }

-- ---- which events are refused, before they are looked at any further

-- why an event is refused while no start runs, if it is
abbrev pub refused_off : Event → Option RefusedWord
refused_off (BootNow entry good) = None
refused_off (Go steps) = Some reasons.Off
refused_off (Fail name count) = None
refused_off (Vital name) = None
refused_off (Edits edit) = Some reasons.Off
refused_off Flush = Some reasons.Off
refused_off Logon = Some reasons.Off
refused_off Off = Some reasons.Off
refused_off (CutNow keep) = Some reasons.Off
refused_off (Arm arming) = None

-- why an event is refused while this start runs, if it is
abbrev pub refused_running : Start → Event → Option RefusedWord
refused_running s (BootNow entry good) = Some reasons.Running
refused_running s (Go steps) = if is_done s.phase then Some reasons.Idle else None
refused_running s (Fail name count) = None
refused_running s (Vital name) = None
refused_running s (Edits edit) = if is_protected edit then Some reasons.Protected else None
refused_running s Flush = None
refused_running s Logon = if not (takes_logons s.phase) then Some reasons.Early else (if s.logged_on then Some reasons.Again else None)
refused_running s Off = None
refused_running s (CutNow keep) = None
refused_running s (Arm arming) = None

-- why an event is refused, by whether a start runs, if it is
abbrev pub refusal_in : Option Start → Event → Option RefusedWord
refusal_in None e = refused_off e
refusal_in (Some s) e = refused_running s e

-- why the machine refuses an event, if it does
abbrev pub refusal_of : MachineState → Event → Option RefusedWord
refusal_of m e = refusal_in m.start e
