use Rattle.key_command.proofs.LineLemmas.{same_lines}
use Rattle.key_command.proofs.key_cells.laws.the_way_to_a_key_prints_alike.Goals as goal

pub returns : goal.returns
returns c = same_lines
