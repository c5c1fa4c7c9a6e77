-- What does the command read, or what is the first obstacle? (this project's own)
--
-- The text of the commands is absent or cannot be parsed; then the hive or its log is absent.
use Rattle.std.specs.Prelude.{ℕ, List, Result, Ok, Err}
use Rattle.nt_edge.specs.Host.{Files}
use Rattle.boot_script.specs.declared.boot_script.stop.ScriptFault.{ScriptFault}
use Rattle.command_words.specs.Words.{ControlAsked}
use Rattle.command_parts.specs.declared.command_parts.refusal.Refusal.{Refusal}
use Rattle.command_parts.specs.declared.command_parts.refusal.Refusal.TheVariants.{ScriptFault as BadCommands}
use Rattle.command_parts.specs.input_search.Search.{Search, ◌>>=◌, reads, finds, file, hive}
use Rattle.control_command.specs.declared.command.ControlCommand.{ControlCommand}
use Rattle.control_command.specs.declared.inputs.ControlInputs.{ControlInputs}
use Rattle.control_command.specs.Commands.{commands_of}

abbrev pub commands_in : Result (List ControlCommand) ScriptFault → Result (List ControlCommand) Refusal
commands_in (Ok commands) = Ok commands
commands_in (Err fault) = Err (BadCommands fault)

-- the commands, and then the hive and its log
abbrev pub control_search : ControlAsked → Search ControlInputs
control_search words = do
  text ← file words.commands
  commands ← reads (commands_in (commands_of text))
  files ← hive words.hive words.log
  finds (record { commands = commands; hive = files })

abbrev pub inputs_in : ControlAsked → Files → Result ControlInputs Refusal
inputs_in words files = (control_search words).found files

-- how many files are asked for, up to the first obstacle
abbrev pub asks_control : ControlAsked → Files → ℕ
asks_control words files = (control_search words).asked files
