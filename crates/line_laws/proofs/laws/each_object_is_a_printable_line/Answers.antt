use Rattle.line_laws.proofs.Lines.{lines_print}
use Rattle.line_laws.proofs.laws.each_object_is_a_printable_line.Goals as goal

pub returns : goal.returns
returns c = lines_print
