-- Which calls are the commands of `control`, and what was printed for those before one? (this project's own)
use Rattle.std.specs.Prelude.{ℕ, List, [], ◌∷◌, ◌++◌}
use Rattle.std.specs.List.{flat_map}
use Rattle.hive_model.specs.Tree.{Tree}
use Rattle.service_control.specs.First.{control_of}
use Rattle.service_control.specs.Laws.{Call, start, stop, stop_all, after_calls}
use Rattle.service_control.specs.State.{ControlState}
use Rattle.control_command.specs.Report.{answer_to}
use Rattle.control_command.specs.declared.command.ControlCommand.{ControlCommand}
use Rattle.control_command.specs.declared.command.ControlCommand.TheVariants.{Start, Stop, StopAll, Listing}

-- the calls of a command: a listing makes none
abbrev pub calls_by : ControlCommand → List Call
calls_by (Start name) = start name ∷ []
calls_by (Stop name) = stop name ∷ []
calls_by (StopAll name) = stop_all name ∷ []
calls_by Listing = []

-- the calls of commands, in their order
abbrev pub all_calls_by : List ControlCommand → List Call
all_calls_by commands = flat_map calls_by commands

-- the services after these commands on a set
abbrev pub control_behind : Tree → List ControlCommand → ControlState
control_behind set commands = after_calls (control_of set) (all_calls_by commands)

-- what is printed for commands, in sequence
abbrev pub said_to : ControlState → List ControlCommand → List ℕ
said_to c [] = []
said_to c (command ∷ more) = (answer_to c command).text ++ said_to (answer_to c command).state more
