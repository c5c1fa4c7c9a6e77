use Rattle.std.proofs.Common.{◌≡◌, ◌++◌, take}
use Rattle.control_command.specs.Report.{name_lines_in}
use Rattle.control_command.proofs.printing.push_lines.Given as goal

abbrev pub invariant-loop-name : goal.invariant-loop-name
invariant-loop-name l = l.out.items ≡ l.fn.out.items ++ name_lines_in l.form l.word (take l.name-index l.names)
