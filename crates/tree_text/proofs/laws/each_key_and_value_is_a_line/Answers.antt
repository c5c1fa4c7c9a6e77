use Rattle.tree_text.proofs.LineLemmas.{tree_lines}
use Rattle.tree_text.proofs.laws.each_key_and_value_is_a_line.Goals as goal

pub returns : goal.returns
returns c = tree_lines
