use Rattle.std.proofs.Common.{◌≡◌, ◌++◌, map, take}
use Rattle.safe_boot.specs.Lines.{line_of}
use Rattle.report_text.specs.line_objects.Objects.{printed_lines}
use Rattle.safe_command.proofs.report.put_lines.Given as goal

abbrev pub invariant-loop-line : goal.invariant-loop-line
invariant-loop-line l = l.text.items
    ≡ l.initial.text.items ++ printed_lines l.form (map line_of (take l.line-index l.lines))
