use Rattle.key_command.proofs.LineLemmas.{cut_lines}
use Rattle.key_command.proofs.key_cells.laws.cut_levels_print_alike.Goals as goal

pub returns : goal.returns
returns c = cut_lines
