-- What are the events of a text, or which line is the first faulty one? (this project's own)
--
-- Lines end with LF, and a CR before it is dropped. Lines of spaces, and lines whose first byte after
-- spaces is `#`, are skipped. At most 65,536 bytes and 64 `boot` lines.
use Rattle.std.specs.Prelude.{◌≡◌, ℕ, ◌+◌, ◌≤◌, List, [], ◌∷◌, ◌++◌, length, Option, Some, None, Result, Ok, Err, nat_lt, ◌==◌, if◌then◌else◌, option_to_list}
use Rattle.std.specs.List.{All}
use Rattle.std.specs.Str.Lines.{lines}
use Rattle.nt_bytes.specs.Reading.{◌>>=◌}
use Rattle.boot_script.specs.declared.boot_script.event.Event.{Event}
use Rattle.boot_script.specs.declared.boot_script.event.Event.TheVariants.{Boot, Go, Fail, ArmCut, ArmFault}
use Rattle.boot_script.specs.declared.boot_script.stop.ScriptFaultKind.{ScriptFaultKind}
use Rattle.boot_script.specs.declared.boot_script.stop.ScriptFaultKind.TheVariants.{TooLong, TooManyStarts}
use Rattle.boot_script.specs.declared.boot_script.stop.ScriptFault.{ScriptFault}
use Rattle.boot_script.specs.declared.boot_script.stop.ScriptStop.{ScriptStop}
use Rattle.boot_script.specs.declared.boot_script.stop.ScriptStop.TheVariants as stops
use Rattle.boot_script.specs.boot_script.Words.{words_of, without_spaces}
use Rattle.boot_script.specs.boot_script.Commands.{event_of}

-- the event of a line that begins with no space; a comment and an empty line have none
unfoldable pub trimmed_event : List ℕ → Result (Option Event) ScriptFaultKind
trimmed_event [] = Ok None
trimmed_event (c ∷ line) = if c == 35 then Ok None else (words_of (c ∷ line) >>= event_of)

abbrev pub line_event : List ℕ → Result (Option Event) ScriptFaultKind
line_event line = trimmed_event (without_spaces line)

-- how many starts the event asks for
abbrev pub starts : Option Event → ℕ
starts (Some (Boot entry good)) = 1
starts _ = 0

-- how many starts the events ask for
abbrev pub starts_in : List Event → ℕ
starts_in [] = 0
starts_in (e ∷ es) = starts (Some e) + starts_in es

abbrev pub at_line : {A : Type 0} → ℕ → ScriptFaultKind → Result A ScriptFault
at_line n kind = Err (record { kind = kind; line = n })

abbrev pub put_before : {X : Type 0} → List X → Result (List X) ScriptFault → Result (List X) ScriptFault
put_before front (Ok items) = Ok (front ++ items)
put_before front (Err f) = Err f

-- what a line gives, where that many starts were asked for before, and what follows it
abbrev pub after_line : ℕ → ℕ → Result (Option Event) ScriptFaultKind → (ℕ → Result (List Event) ScriptFault) → Result (List Event) ScriptFault
after_line n boots (Err kind) next = at_line n kind
after_line n boots (Ok event) next =
    if nat_lt 64 (boots + starts event) then at_line n TooManyStarts
    else put_before (option_to_list event) (next (boots + starts event))

-- the events of the lines from line n on, after that many `boot` lines, or the first fault
unfoldable pub events_from : ℕ → ℕ → List (List ℕ) → Result (List Event) ScriptFault
events_from n boots [] = Ok []
events_from n boots (line ∷ more) = after_line n boots (line_event line) (λ boots. events_from (n + 1) boots more)

-- the script that the text is, or the first fault
unfoldable pub script_of : List ℕ → Result (List Event) ScriptFault
script_of text = if nat_lt 65536 (length text) then at_line 0 TooLong else events_from 1 0 (lines text)

-- ---- what holds of every script

-- the numbers of the event that count something: all from 1 but the failures of `fail`, and of 32 bits
abbrev pub HasCounts : Event → Type 0
HasCounts (Boot (Some entry) good) = (1 ≤ entry) × (entry ≤ 4294967295)
HasCounts (Go (Some steps)) = (1 ≤ steps) × (steps ≤ 4294967295)
HasCounts (Fail name count) = count ≤ 4294967295
HasCounts (ArmCut call n keep) = (1 ≤ n) × (n ≤ 4294967295)
HasCounts (ArmFault call n) = (1 ≤ n) × (n ≤ 4294967295)
HasCounts _ = Unit {0}

pub record IsBounded (events : List Event) : Type 0 where
  pub counts : All HasCounts events
  pub few_starts : starts_in events ≤ 64
  pub few_events : length events ≤ 65536

-- ---- what the code returns

abbrev pub FailsBy : {X : Type 0} → ScriptStop → Result (List X) ScriptFault → Type 0
FailsBy stops.Memory read = Unit {0}
FailsBy (stops.Fault f) read = read ≡ Err f

-- the events, or the fault, or lack of memory
abbrev pub GivesScript : Result (List Event) ScriptStop → Result (List Event) ScriptFault → Type 0
GivesScript (Ok events) read = read ≡ Ok events
GivesScript (Err e) read = FailsBy e read

-- the line's event is added, and that many `boot` lines are there with it
pub record TakesLine (old new : List Event) (line : List ℕ) (boots after : ℕ) : Type 0 where
  pub event : Option Event
  pub reads : line_event line ≡ Ok event
  pub counts : after ≡ boots + starts event
  pub few : after ≤ 64
  pub adds : new ≡ old ++ option_to_list event

-- whatever follows, the line is the first fault
abbrev pub RefusesLine : List ℕ → ℕ → ℕ → ScriptStop → Type 0
RefusesLine line number boots stop = (next : ℕ → Result (List Event) ScriptFault) → FailsBy stop (after_line number boots (line_event line) next)
