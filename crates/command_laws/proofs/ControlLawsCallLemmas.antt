-- Commands as calls.
use Rattle.std.proofs.Common.{◌≡◌, ℕ, List, [], ◌∷◌, ◌++◌, Option, Some, None, refl, sym, ap, ◌∙◌, append_assoc}
use Rattle.std.specs.Prelude.{codes}
use Rattle.std.specs.Option.{option_map_or}
use Rattle.hive_model.specs.Tree.{Tree}
use Rattle.service_control.specs.declared.stop.ControlStop.{ControlStop}
use Rattle.service_control.specs.State.{ControlState}
use Rattle.service_control.specs.First.{control_of}
use Rattle.service_control.specs.Calls.{start_refusal, stop_refusal, off_refusal, after_start, after_stop, after_stop_all, new_of, stopped_by}
use Rattle.service_control.specs.Laws.{Call, after_call, after_calls}
use Rattle.dependencies.specs.Work.{names_of}
use Rattle.control_command.specs.declared.command.ControlCommand.{ControlCommand}
use Rattle.control_command.specs.declared.command.ControlCommand.TheVariants.{Start, Stop, StopAll, Listing}
use Rattle.control_command.specs.Report.{Answered, answer_to, answers_to, unless, name_line, name_lines, spelled, default_set, report_of}
use Rattle.command_laws.specs.control_laws.Called.{calls_by, all_calls_by, said_to}

-- a refusal leaves all as it was
pub state_unless : (why : Option ControlStop) (command name : List ℕ) (c : ControlState) (done : Answered)
    → (unless why command name c done).state ≡ option_map_or (λ _. c) why done.state
state_unless None command name c done = refl
state_unless (Some stop) command name c done = refl

pub command_calls : (c : ControlState) (command : ControlCommand)
    → (answer_to c command).state ≡ after_calls c (calls_by command)
command_calls c (Start name) =
    state_unless (start_refusal c name) (codes "start") name c
    (record { text = name_lines (codes "started") (names_of (new_of c name)); state = after_start c name })
command_calls c (Stop name) =
    state_unless (stop_refusal c name) (codes "stop") name c
    (record { text = name_line (codes "stopped") (spelled c name); state = after_stop c name })
command_calls c (StopAll name) =
    state_unless (off_refusal c name) (codes "stopall") name c
    (record { text = name_lines (codes "stopped") (stopped_by c name); state = after_stop_all c name })
command_calls c Listing = refl

-- calls after others
pub after_more : (c : ControlState) (calls more : List Call)
    → after_calls c (calls ++ more) ≡ after_calls (after_calls c calls) more
after_more c [] more = refl
after_more c (call ∷ calls) more = after_more (after_call c call) calls more

-- the first command's call, and then the others
call_first : (c : ControlState) (command : ControlCommand) (more : List ControlCommand)
    → after_calls (answer_to c command).state (all_calls_by more) ≡ after_calls c (all_calls_by (command ∷ more))
call_first c command more =
    ap (λ d. after_calls d (all_calls_by more)) (command_calls c command)
    ∙ sym (after_more c (calls_by command) (all_calls_by more))

-- what is printed from a command on, in this state
abbrev from : ControlCommand → List ControlCommand → ControlState → List ℕ
from command back now = (answer_to now command).text ++ answers_to (after_calls now (calls_by command)) back

pub answer_behind : (c : ControlState) (front back : List ControlCommand) (command : ControlCommand)
    → answers_to c (front ++ command ∷ back) ≡ said_to c front ++ from command back (after_calls c (all_calls_by front))
answer_behind c [] back command = ap (λ d. (answer_to c command).text ++ answers_to d back) (command_calls c command)
answer_behind c (first ∷ front) back command =
    let next : ControlState = (answer_to c first).state in
    ap (λ t. (answer_to c first).text ++ t) (answer_behind next front back command)
    ∙ ap (λ d. (answer_to c first).text ++ (said_to next front ++ from command back d)) (call_first c first front)
    ∙ sym (append_assoc (answer_to c first).text (said_to next front)
    (from command back (after_calls c (all_calls_by (first ∷ front)))))

pub ends : (c : ControlState) (commands : List ControlCommand)
    → answers_to c commands ≡ said_to c commands ++ codes "end\n"
ends c [] = refl
ends c (first ∷ more) =
    let next : ControlState = (answer_to c first).state in
    ap (λ t. (answer_to c first).text ++ t) (ends next more)
    ∙ sym (append_assoc (answer_to c first).text (said_to next more) (codes "end\n"))

pub report_is : (tree set : Tree) (commands : List ControlCommand) → default_set tree ≡ Some set
    → report_of tree commands ≡ answers_to (control_of set) commands
report_is tree set commands is =
    ap (λ o. option_map_or (λ s. answers_to (control_of s) commands) o (codes "verdict no-control-set\nend\n")) is
