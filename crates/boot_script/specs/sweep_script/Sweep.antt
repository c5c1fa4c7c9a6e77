-- What is the script of a sweep, or which line is the first faulty one? (this project's own)
--
-- The lines are those of the script of a run, but that `sweep` occurs once, alone in its line, and that no line begins with `cut` or
-- `fault`. What is asked for after the first event behind `sweep` has to have a reading too, and is dropped.
use Rattle.std.specs.Prelude.{◌≡◌, ℕ, ◌+◌, true, false, ◌||◌, List, [], ◌∷◌, ◌++◌, length, Option, Some, None, Result, Ok, Err, nat_lt, if◌then◌else◌, codes}
use Rattle.std.specs.Str.{bytes_eq}
use Rattle.std.specs.Str.Lines.{lines}
use Rattle.boot_script.specs.declared.boot_script.event.Event.{Event}
use Rattle.boot_script.specs.declared.boot_script.event.Event.TheVariants.{CutNow, ArmCut, ArmFault}
use Rattle.boot_script.specs.declared.boot_script.stop.ScriptFaultKind.{ScriptFaultKind}
use Rattle.boot_script.specs.declared.boot_script.stop.ScriptFaultKind.TheVariants.{Word, TooLong, TooManyStarts}
use Rattle.boot_script.specs.declared.boot_script.stop.ScriptFault.{ScriptFault}
use Rattle.boot_script.specs.declared.boot_script.stop.ScriptStop.{ScriptStop}
use Rattle.boot_script.specs.declared.boot_script.stop.ScriptStop.TheVariants as line_stops
use Rattle.boot_script.specs.boot_script.Script.{script_of, starts, at_line, HasCounts}
use Rattle.boot_script.specs.boot_script.Words.{words_of}
use Rattle.boot_script.specs.declared.sweep_script.line.Role.{Role}
use Rattle.boot_script.specs.declared.sweep_script.line.Role.TheVariants.{Mark, Barred, Plain}
use Rattle.boot_script.specs.declared.sweep_script.parts.Parts.{Parts}
use Rattle.boot_script.specs.declared.sweep_script.reading.SweepScript.{SweepScript}
use Rattle.boot_script.specs.declared.sweep_script.stop.SweepFault.{SweepFault}
use Rattle.boot_script.specs.declared.sweep_script.stop.SweepFault.TheVariants as faults
use Rattle.boot_script.specs.declared.sweep_script.stop.SweepStop.{SweepStop}
use Rattle.boot_script.specs.declared.sweep_script.stop.SweepStop.TheVariants as stops

-- ---- one line

-- `sweep` with these words after it
abbrev pub mark_role : List (List ℕ) → Role
mark_role [] = Mark
mark_role (word ∷ words) = Barred

-- a line that begins with another word
abbrev pub plain_role : List ℕ → Role
plain_role name = if bytes_eq name (codes "cut") || bytes_eq name (codes "fault") then Barred else Plain

-- a line of these words
abbrev pub role_by : List (List ℕ) → Role
role_by [] = Plain
role_by (name ∷ words) = if bytes_eq name (codes "sweep") then mark_role words else plain_role name

-- what a line is to a sweep; a comment, and one whose words have a fault, is read as in any script
abbrev pub role_of : Result (List (List ℕ)) ScriptFaultKind → Role
role_of (Ok words) = role_by words
role_of (Err kind) = Plain

-- the last of the events; a script of one line has at most one
abbrev pub last_of : List Event → Option Event
last_of [] = None
last_of (e ∷ []) = Some e
last_of (e ∷ f ∷ es) = last_of (f ∷ es)

-- the event, unless it orders a stop of the disk
abbrev pub unordered : Option Event → Result (Option Event) ScriptFaultKind
unordered (Some (CutNow keep)) = Err Word
unordered (Some (ArmCut call n keep)) = Err Word
unordered (Some (ArmFault call n)) = Err Word
unordered other = Ok other

-- the event of a line, by what it is as a script of its own
abbrev pub event_of : Result (List Event) ScriptFault → Result (Option Event) ScriptFaultKind
event_of (Ok events) = unordered (last_of events)
event_of (Err fault) = Err fault.kind

-- ---- the lines in order

-- before the first line
abbrev pub no_parts : Parts
no_parts = record { before = []; marked = false; event = None; starts = 0 }

-- the first event is kept
abbrev pub first_event : Option Event → Event → Option Event
first_event None e = Some e
first_event (Some first) e = Some first

-- one more event: before the line `sweep`, or after it
abbrev pub placed : Event → Parts → Parts
placed e p = if p.marked then record p { event = first_event p.event e } else record p { before = p.before ++ e ∷ [] }

-- the event of a line, if it has one, with which there are that many `boot` lines
abbrev pub with_event : Option Event → ℕ → Parts → Parts
with_event None count p = record p { starts = count }
with_event (Some e) count p = placed e (record p { starts = count })

-- at most 64 lines are `boot`
abbrev pub after_event : ℕ → Parts → Result (Option Event) ScriptFaultKind → Result Parts ScriptFault
after_event n p (Err kind) = at_line n kind
after_event n p (Ok e) = if nat_lt 64 (p.starts + starts e) then at_line n TooManyStarts else Ok (with_event e (p.starts + starts e) p)

-- what a line with this number makes of what was read
abbrev pub after_role : ℕ → Parts → List ℕ → Role → Result Parts ScriptFault
after_role n p line Mark = if p.marked then at_line n Word else Ok (record p { marked = true })
after_role n p line Barred = at_line n Word
after_role n p line Plain = after_event n p (event_of (script_of line))

abbrev pub after_line : ℕ → Parts → List ℕ → Result Parts ScriptFault
after_line n p line = after_role n p line (role_of (words_of line))

abbrev pub and_then : Result Parts ScriptFault → (Parts → Result Parts ScriptFault) → Result Parts ScriptFault
and_then (Ok p) next = next p
and_then (Err fault) next = Err fault

-- the lines from line n on
unfoldable pub parts_from : ℕ → Parts → List (List ℕ) → Result Parts ScriptFault
parts_from n p [] = Ok p
parts_from n p (line ∷ more) = and_then (after_line n p line) (λ q. parts_from (n + 1) q more)

-- ---- the whole script

abbrev pub sweep_on : List Event → Option Event → Result SweepScript SweepFault
sweep_on before None = Err faults.NoSweep
sweep_on before (Some e) = Ok (record { before = before; event = e })

-- without a line `sweep` there is no event after it
abbrev pub sweep_by : Result Parts ScriptFault → Result SweepScript SweepFault
sweep_by (Err fault) = Err (faults.Script fault)
sweep_by (Ok p) = sweep_on p.before p.event

-- the script that the text is, or the first fault
unfoldable pub sweep_of : List ℕ → Result SweepScript SweepFault
sweep_of text = if nat_lt 65536 (length text) then sweep_by (at_line 0 TooLong) else sweep_by (parts_from 1 no_parts (lines text))

-- ---- what holds of every script

-- all events, the one that is swept last
abbrev pub events_of : SweepScript → List Event
events_of script = script.before ++ script.event ∷ []

-- the event neither cuts the power nor orders a stop of the disk
abbrev pub IsUnordered : Event → Type 0
IsUnordered (CutNow keep) = ⊥
IsUnordered (ArmCut call n keep) = ⊥
IsUnordered (ArmFault call n) = ⊥
IsUnordered other = Unit {0}

-- its numbers are in their ranges, and it orders no stop
pub record IsPlayable (e : Event) : Type 0 where
  pub counts : HasCounts e
  pub unordered : IsUnordered e

-- ---- what the code returns

-- what was read is this
abbrev pub Takes : Result Parts ScriptFault → Parts → Type 0
Takes read p = read ≡ Ok p

-- the fault is this, or there was no memory
abbrev pub Refuses : Result Parts ScriptFault → ScriptStop → Type 0
Refuses read line_stops.Memory = Unit {0}
Refuses read (line_stops.Fault f) = read ≡ Err f

abbrev pub FailsBy : SweepStop → Result SweepScript SweepFault → Type 0
FailsBy stops.Memory read = Unit {0}
FailsBy (stops.Fault f) read = read ≡ Err f

-- the script, or its fault, or there was no memory
abbrev pub GivesSweep : Result SweepScript SweepStop → Result SweepScript SweepFault → Type 0
GivesSweep (Ok script) read = read ≡ Ok script
GivesSweep (Err stop) read = FailsBy stop read
