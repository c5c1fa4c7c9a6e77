use Rattle.hive_read.proofs.Wellformed.{well-formed-passes}
use Rattle.hive_read.proofs.laws.well_formed_passes.Goals as goal

pub returns : goal.returns
returns c = well-formed-passes
