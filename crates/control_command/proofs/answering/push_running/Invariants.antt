use Rattle.std.proofs.Common.{◌≡◌, ◌++◌, take}
use Rattle.std.specs.Prelude.{codes}
use Rattle.dependencies.specs.Work.{names_of}
use Rattle.control_command.specs.Report.{name_lines_in}
use Rattle.control_command.proofs.answering.push_running.Given as goal

abbrev pub invariant-loop-entry : goal.invariant-loop-entry
invariant-loop-entry l = l.out.items ≡ l.fn.out.items
    ++ name_lines_in l.form (codes "running") (names_of (take l.entry-index l.running))
