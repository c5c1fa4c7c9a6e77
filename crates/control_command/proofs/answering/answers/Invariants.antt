use Rattle.std.proofs.Common.{◌≡◌, ◌++◌, drop}
use Rattle.service_control.specs.First.{control_of}
use Rattle.control_command.specs.Report.{answers_in}
use Rattle.control_command.proofs.answering.answers.Given as goal

abbrev pub invariant-loop-command : goal.invariant-loop-command
invariant-loop-command l =
    l.out.items ++ answers_in l.form l.control (drop l.command-index l.commands) ≡ answers_in l.form (control_of l.set) l.commands
