-- What are the edits that a registry text stands for, or which line is the first faulty one? (the form "Windows Registry
-- Editor Version 5.00": Microsoft's documentation of .reg files; the faults and their order are this project's own)
--
-- The text is UTF-16 after its mark. Lines end with LF, and a CR before it is dropped; a last line may lack its LF. Blanks
-- at both ends of a line are dropped. Half a unit at the end counts in the last line.
use Rattle.std.specs.Prelude.{ℕ, ◌+◌, ◌%◌, min, Bool, ◌&&◌, ◌||◌, ◌==◌, if◌then◌else◌, List, [], ◌∷◌, ◌++◌, length, Option, Some, None, Result, Ok, Err}
use Rattle.std.specs.Option.{option_map_or, is_some}
use Rattle.std.specs.Str.{bytes_eq}
use Rattle.std.specs.Str.Lines.{lines}
use Rattle.nt_bytes.specs.Text.{wide_of, trimmed}
use Rattle.nt_bytes.specs.Reading.{◌>>=◌}
use Rattle.hive_model.specs.Edit.{Step, set_value, delete_value, make_key, delete_key}
use Rattle.reg_text.specs.declared.stop.RegFaultKind.{RegFaultKind}
use Rattle.reg_text.specs.declared.stop.RegFaultKind.TheVariants.{Mark, Header, Line}
use Rattle.reg_text.specs.declared.stop.RegFault.{RegFault}
use Rattle.reg_text.specs.declared.item.Begun.{Begun}
use Rattle.reg_text.specs.declared.item.LineItem.{LineItem}
use Rattle.reg_text.specs.declared.item.LineItem.TheVariants.{Nothing, InKey, NoKey, Named, NoValue, GoesOn}
use Rattle.reg_text.specs.declared.state.State.{State}
use Rattle.reg_text.specs.Writing.{header}
use Rattle.reg_text.specs.Gives.{at_line}
use Rattle.reg_text.specs.Items.{ends_in, item_at}

-- ---- the edits of a line

-- each key of the path is made, from the top
abbrev pub making : List (List ℕ) → List (List ℕ) → List Step
making above [] = []
making above (name ∷ path) = make_key above name ∷ making (above ++ name ∷ []) path

-- the edits of a value, which is in a key
abbrev pub in_key : Option (List (List ℕ)) → (List (List ℕ) → List Step) → Result (List Step) RegFaultKind
in_key None edits = Err Line
in_key (Some path) edits = Ok (edits path)

-- the edits of a line, where values are in this key, if in any
abbrev pub edits_of : Option (List (List ℕ)) → LineItem → Result (List Step) RegFaultKind
edits_of key Nothing = Ok []
edits_of key (InKey path) = Ok (making [] path)
edits_of key (NoKey path) = Ok (delete_key path ∷ [])
edits_of key (Named name kind bytes) = in_key key (λ path. set_value path name kind bytes ∷ [])
edits_of key (NoValue name) = in_key key (λ path. delete_value path name ∷ [])
edits_of key (GoesOn begun) = in_key key (λ path. [])

-- the key in which values stand after the line
abbrev pub key_after : Option (List (List ℕ)) → LineItem → Option (List (List ℕ))
key_after key (InKey path) = Some path
key_after key (NoKey path) = None
key_after key _ = key

-- the value whose bytes go on in the next line
abbrev pub begun_after : LineItem → Option Begun
begun_after (GoesOn begun) = Some begun
begun_after _ = None

-- ---- lines in order

-- the number of the line that is read, or of the first line of the value that goes on in it
abbrev pub number_of : State → ℕ
number_of state = if is_some state.begun then state.last else state.line

-- what is kept after a line; a number past 4,294,967,295 is given as that
abbrev pub state_after : State → LineItem → State
state_after state item = record {
  line = min (state.line + 1) 4294967295;
  last = number_of state;
  key = key_after state.key item;
  begun = begun_after item;
}

-- the edits of a line, and what is kept after it
unfoldable pub line_said : State → List ℕ → Result (List Step × State) RegFaultKind
line_said state line = item_at state.begun (trimmed line) >>= λ item. edits_of state.key item >>= λ edits. Ok (edits, state_after state item)

-- the edits before those of the lines that follow
abbrev pub with_edits : List Step → Result (List Step × State) RegFault → Result (List Step × State) RegFault
with_edits edits (Ok r) = Ok (edits ++ r.0, r.1)
with_edits edits (Err f) = Err f

-- what a line gives, and what follows it
abbrev pub then_lines : Result (List Step × State) RegFault → (State → Result (List Step × State) RegFault) → Result (List Step × State) RegFault
then_lines (Ok r) next = with_edits r.0 (next r.1)
then_lines (Err f) next = Err f

-- the edits of lines, and what is kept after them, or the first fault
unfoldable pub lines_said : State → List (List ℕ) → Result (List Step × State) RegFault
lines_said state [] = Ok ([], state)
lines_said state (line ∷ more) = then_lines (at_line (number_of state) (line_said state line)) (λ next. lines_said next more)

-- ---- the whole text

-- before the second line no key was named
abbrev pub first_state : State
first_state = record { line = 2; last = 1; key = None; begun = None }

-- the lines after the header
unfoldable pub body_of : List (List ℕ) → Result (List (List ℕ)) RegFaultKind
body_of [] = Err Header
body_of (line ∷ more) = if bytes_eq (trimmed line) header then Ok more else Err Header

-- the units end where a line ends
abbrev pub ends_line : List ℕ → Bool
ends_line units = (length units == 0) || ends_in 10 units

-- the line that lacks its end: a value's whose bytes were to go on, or the one that half a unit is in
unfoldable pub unended : State → List ℕ → Bool → Option ℕ
unended state units odd =
    if is_some state.begun then Some state.last
    else if odd then Some (if ends_line units then state.line else state.last)
    else None

-- the edits, unless a line lacks its end
abbrev pub closed : List ℕ → Bool → Result (List Step × State) RegFault → Result (List Step) RegFault
closed units odd (Err f) = Err f
closed units odd (Ok r) = option_map_or (λ n. Err (record { kind = Line; line = n })) (unended r.1 units odd) (Ok r.0)

-- the lines after the header, or its fault
abbrev pub lines_behind : Result (List (List ℕ)) RegFaultKind → Result (List Step × State) RegFault
lines_behind (Err kind) = Err (record { kind = kind; line = 1 })
lines_behind (Ok body) = lines_said first_state body

-- the edits of the units after the mark, after which half a unit may stand
unfoldable pub units_said : List ℕ → Bool → Result (List Step) RegFault
units_said units odd = closed units odd (lines_behind (body_of (lines units)))

-- what follows the mark
unfoldable pub behind_mark : List ℕ → Option (List ℕ)
behind_mark [] = None
behind_mark (a ∷ []) = None
behind_mark (a ∷ b ∷ bytes) = if (a == 255) && (b == 254) then Some bytes else None

-- the edits of a text, or its first fault
unfoldable pub reg_steps_of : List ℕ → Result (List Step) RegFault
reg_steps_of text = option_map_or
    (λ bytes. units_said (wide_of bytes) (length bytes % 2 == 1))
    (behind_mark text)
    (Err (record { kind = Mark; line = 0 }))
