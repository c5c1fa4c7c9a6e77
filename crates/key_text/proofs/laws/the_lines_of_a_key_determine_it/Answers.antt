use Rattle.key_text.proofs.BlockLemmas.{same_blocks}
use Rattle.key_text.proofs.laws.the_lines_of_a_key_determine_it.Goals as goal

pub returns : goal.returns
returns c = same_blocks
