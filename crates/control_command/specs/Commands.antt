-- What does a text of commands say, or which line is the first faulty one? (this project's own)
--
--     start NAME    stop NAME    stopall NAME    list
--
-- Lines, words, comments and the kinds of faults are those of the script of a run (`boot_script`).
use Rattle.std.specs.Prelude.{◌≡◌, ℕ, ◌+◌, List, [], ◌∷◌, ◌++◌, length, Option, Some, None, Result, Ok, Err, nat_lt, ◌==◌, if◌then◌else◌, option_to_list, codes}
use Rattle.std.specs.Str.{bytes_eq}
use Rattle.std.specs.Str.Lines.{lines}
use Rattle.nt_bytes.specs.Reading.{◌>>=◌}
use Rattle.boot_script.specs.declared.boot_script.stop.ScriptFaultKind.{ScriptFaultKind}
use Rattle.boot_script.specs.declared.boot_script.stop.ScriptFaultKind.TheVariants.{TooLong, Word}
use Rattle.boot_script.specs.declared.boot_script.stop.ScriptFault.{ScriptFault}
use Rattle.boot_script.specs.declared.boot_script.stop.ScriptStop.{ScriptStop}
use Rattle.boot_script.specs.declared.boot_script.stop.ScriptStop.TheVariants as stops
use Rattle.boot_script.specs.boot_script.Words.{words_of, without_spaces}
use Rattle.control_command.specs.declared.command.ControlCommand.{ControlCommand}
use Rattle.control_command.specs.declared.command.ControlCommand.TheVariants.{Start, Stop, StopAll, Listing}
use Rattle.boot_script.specs.boot_script.Script.{at_line, put_before, FailsBy}

-- the command of one word, or of a word and a name
abbrev pub alone_of : List ℕ → Result ControlCommand ScriptFaultKind
alone_of word = if bytes_eq word (codes "list") then Ok Listing else Err Word

abbrev pub named_of : List ℕ → List ℕ → Result ControlCommand ScriptFaultKind
named_of word name =
    if bytes_eq word (codes "start") then Ok (Start name)
    else if bytes_eq word (codes "stop") then Ok (Stop name)
    else if bytes_eq word (codes "stopall") then Ok (StopAll name)
    else Err Word

-- the command of a line with these words
unfoldable pub command_of : List (List ℕ) → Result ControlCommand ScriptFaultKind
command_of [] = Err Word
command_of (a ∷ []) = alone_of a
command_of (a ∷ b ∷ []) = named_of a b
command_of (a ∷ b ∷ c ∷ more) = Err Word

-- the command of a line that begins with no space; a comment and an empty line have none
unfoldable pub trimmed_command : List ℕ → Result (Option ControlCommand) ScriptFaultKind
trimmed_command [] = Ok None
trimmed_command (c ∷ line) = if c == 35 then Ok None else (words_of (c ∷ line) >>= λ words. command_of words >>= λ command. Ok (Some command))

abbrev pub line_command : List ℕ → Result (Option ControlCommand) ScriptFaultKind
line_command line = trimmed_command (without_spaces line)

-- what a line gives, and what follows it
abbrev pub after_line : ℕ → Result (Option ControlCommand) ScriptFaultKind → Result (List ControlCommand) ScriptFault → Result (List ControlCommand) ScriptFault
after_line n (Err kind) next = at_line n kind
after_line n (Ok command) next = put_before (option_to_list command) next

-- the commands of the lines from line n on, or the first fault
unfoldable pub commands_from : ℕ → List (List ℕ) → Result (List ControlCommand) ScriptFault
commands_from n [] = Ok []
commands_from n (line ∷ more) = after_line n (line_command line) (commands_from (n + 1) more)

-- the commands that the text is, or the first fault: a text over 65,536 bytes is refused before all else, as line 0
unfoldable pub commands_of : List ℕ → Result (List ControlCommand) ScriptFault
commands_of text = if nat_lt 65536 (length text) then at_line 0 TooLong else commands_from 1 (lines text)

-- ---- what a function of the code returned, against what the grammar gives

-- the commands were read, or the first fault is this, or there was no memory
abbrev pub GivesCommands : Result (List ControlCommand) ScriptStop → Result (List ControlCommand) ScriptFault → Type 0
GivesCommands (Ok commands) read = read ≡ Ok commands
GivesCommands (Err stop) read = FailsBy stop read

-- a line was read, and its command stands after the others
pub record TakesLine (old new : List ControlCommand) (line : List ℕ) : Type 0 where
  pub command : Option ControlCommand
  pub reads : line_command line ≡ Ok command
  pub adds : new ≡ old ++ option_to_list command

-- a line was refused
abbrev pub RefusesLine : List ℕ → ℕ → ScriptStop → Type 0
RefusesLine line n stops.Memory = Unit {0}
RefusesLine line n (stops.Fault f) = (next : Result (List ControlCommand) ScriptFault) → after_line n (line_command line) next ≡ Err f
