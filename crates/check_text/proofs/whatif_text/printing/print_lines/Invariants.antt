use Rattle.std.proofs.Common.{◌≡◌}
use Rattle.check_text.specs.whatif_text.Lines.{printed_lines}
use Rattle.check_text.proofs.whatif_text.printing.print_lines.Given as goal

abbrev pub invariant-loop-line : goal.invariant-loop-line
invariant-loop-line l = l.out.items ≡ printed_lines l.form l.yielded
