use Rattle.hive_commit.specs.Stages.{closed_of}
use Rattle.hive_laws.proofs.CutLemmas.{loads_as_either, loads_as_no_third}
use Rattle.hive_laws.proofs.hive_laws.cuts.a_cut_leaves_one_of_two_trees.Goals as goal

pub returns-clause-loads : goal.returns-clause-loads
returns-clause-loads c = λ disk base old new root before after held holds each image left.
    loads_as_either base (closed_of base new root) old new before after held holds image (each image left)

pub returns-clause-no_third : goal.returns-clause-no_third
returns-clause-no_third c = λ disk base old new root before after held holds each image left.
    loads_as_no_third base (closed_of base new root) old new before after held holds image (each image left)
