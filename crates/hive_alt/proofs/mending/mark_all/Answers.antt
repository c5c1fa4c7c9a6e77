use Rattle.std.proofs.Common.{length, ◌∙◌, arith}
use Rattle.hive_alt.proofs.TwinLemmas.{whole_of, all_dirty}
use Rattle.hive_alt.proofs.mending.mark_all.Goals as goal

pub returns : goal.returns
returns c = λ i small. c.mark_dirty.ensures i (omega (arith, whole_of (length c.args.bins.now) c.requires))
    ∙ all_dirty c.args.bins.now i
