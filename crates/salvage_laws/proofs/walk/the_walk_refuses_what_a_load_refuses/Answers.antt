use Rattle.salvage_laws.proofs.KeysGoing.{told-first, silent-so, tree-so}
use Rattle.salvage_laws.proofs.walk.the_walk_refuses_what_a_load_refuses.Goals as goal

pub returns-clause-first : goal.returns-clause-first
returns-clause-first c = λ hive root none. told-first hive none root

pub returns-clause-silent : goal.returns-clause-silent
returns-clause-silent c = λ hive root none e. silent-so hive none root e

pub returns-clause-tree : goal.returns-clause-tree
returns-clause-tree c = λ hive root t none f. tree-so hive none root t f
