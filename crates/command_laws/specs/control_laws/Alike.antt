-- When do two commands end alike? (this project's own)
use Rattle.std.specs.Prelude.{◌≡◌, ℕ, List, Option, None}
use Rattle.service_control.specs.Calls.{start_refusal, stop_refusal, off_refusal}
use Rattle.service_control.specs.State.{ControlState}
use Rattle.service_control.specs.declared.stop.ControlStop.{ControlStop}
use Rattle.control_command.specs.Report.{answer_to}
use Rattle.control_command.specs.declared.command.ControlCommand.{ControlCommand}
use Rattle.control_command.specs.declared.command.ControlCommand.TheVariants.{Start, Stop, StopAll, Listing}

-- the same command of another name
abbrev pub with_name : List ℕ → ControlCommand → ControlCommand
with_name name (Start old) = Start name
with_name name (Stop old) = Stop name
with_name name (StopAll old) = StopAll name
with_name name Listing = Listing

-- why a command is refused, if it is
abbrev pub refusal_to : ControlState → ControlCommand → Option ControlStop
refusal_to c (Start name) = start_refusal c name
refusal_to c (Stop name) = stop_refusal c name
refusal_to c (StopAll name) = off_refusal c name
refusal_to c Listing = None

-- Both are refused for one reason or neither is, and both leave the same. What is not refused has the same lines; a line
-- of a refusal has the command's own word.
pub record EndAlike (c : ControlState) (x y : ControlCommand) : Type 0 where
  pub refusal : refusal_to c x ≡ refusal_to c y
  pub state : (answer_to c x).state ≡ (answer_to c y).state
  pub text : refusal_to c x ≡ None → (answer_to c x).text ≡ (answer_to c y).text
