use Rattle.hive_commit.specs.Stages.{closed_of}
use Rattle.hive_laws.proofs.CutLemmas.{reads_as_either}
use Rattle.hive_laws.proofs.hive_laws.cuts.a_cut_leaves_one_of_two_readings.Goals as goal

pub returns : goal.returns
returns c = λ reading disk base old new root each image left.
    reads_as_either reading base (closed_of base new root) old new image (each image left)
