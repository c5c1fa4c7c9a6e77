-- What are the events of a text where no disk can be ordered to stop, or which line is the first faulty one? (this project's own)
--
-- A line whose first word is `fault`, or is `cut` without `now` after it, orders the disk. It is a fault of words, whatever else it has.
use Rattle.std.specs.Prelude.{ℕ, ◌+◌, Bool, false, ◌&&◌, ◌||◌, not, List, [], ◌∷◌, length, Option, Some, None, Result, Ok, Err, nat_lt, ◌==◌, if◌then◌else◌, codes}
use Rattle.std.specs.Str.{bytes_eq}
use Rattle.std.specs.Str.Lines.{lines}
use Rattle.boot_script.specs.declared.boot_script.event.Event.{Event}
use Rattle.boot_script.specs.declared.boot_script.stop.ScriptFaultKind.{ScriptFaultKind}
use Rattle.boot_script.specs.declared.boot_script.stop.ScriptFaultKind.TheVariants.{TooLong, Word}
use Rattle.boot_script.specs.declared.boot_script.stop.ScriptFault.{ScriptFault}
use Rattle.boot_script.specs.boot_script.Words.{words_of, without_spaces}
use Rattle.boot_script.specs.boot_script.Script.{line_event, at_line, after_line}

-- ---- a line that orders the disk

abbrev pub begins_with_now : List (List ℕ) → Bool
begins_with_now [] = false
begins_with_now (word ∷ words) = bytes_eq word (codes "now")

-- the words are those of `fault`, or of a `cut` at a call
unfoldable pub order_words : List (List ℕ) → Bool
order_words [] = false
order_words (name ∷ words) = bytes_eq name (codes "fault") || (bytes_eq name (codes "cut") && not (begins_with_now words))

-- the same of what was read; a line that can't be read orders nothing
abbrev pub order_read : Result (List (List ℕ)) ScriptFaultKind → Bool
order_read (Ok words) = order_words words
order_read (Err kind) = false

-- the line begins with no space; a comment and an empty line order nothing
unfoldable pub trimmed_order : List ℕ → Bool
trimmed_order [] = false
trimmed_order (c ∷ line) = not (c == 35) && order_read (words_of (c ∷ line))

abbrev pub is_order : List ℕ → Bool
is_order line = trimmed_order (without_spaces line)

-- ---- the text

-- the event of a line
abbrev pub quiet_event : List ℕ → Result (Option Event) ScriptFaultKind
quiet_event line = if is_order line then Err Word else line_event line

-- the events of the lines from line n on, after that many `boot` lines, or the first fault
unfoldable pub quiet_events : ℕ → ℕ → List (List ℕ) → Result (List Event) ScriptFault
quiet_events n boots [] = Ok []
quiet_events n boots (line ∷ more) = after_line n boots (quiet_event line) (λ boots. quiet_events (n + 1) boots more)

-- the script that the text is, or the first fault
unfoldable pub quiet_script_of : List ℕ → Result (List Event) ScriptFault
quiet_script_of text = if nat_lt 65536 (length text) then at_line 0 TooLong else quiet_events 1 0 (lines text)

-- ---- how it is found

-- the number of the first of the lines, from line n on, that orders the disk
unfoldable pub first_order : ℕ → List (List ℕ) → Option ℕ
first_order n [] = None
first_order n (line ∷ more) = if is_order line then Some n else first_order (n + 1) more

-- what was read of all lines, up to the first that orders the disk: a fault before it, or it is the fault
abbrev pub up_to : Option ℕ → Result (List Event) ScriptFault → Result (List Event) ScriptFault
up_to None read = read
up_to (Some n) (Ok events) = at_line n Word
up_to (Some n) (Err f) = if nat_lt f.line n then Err f else at_line n Word
