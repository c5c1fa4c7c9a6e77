use Rattle.whatif_laws.proofs.BlockLemmas.{whole, part}
use Rattle.whatif_laws.proofs.blocks.the_blocks_of_a_name_are_those_of_the_whole.Goals as goal

pub returns-clause-whole : goal.returns-clause-whole
returns-clause-whole c = whole

pub returns-clause-part : goal.returns-clause-part
returns-clause-part c = part
