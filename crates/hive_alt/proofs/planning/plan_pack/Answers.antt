use Rattle.std.proofs.Common.{refl}
use Rattle.hive_model.specs.Packed.{packed_bins}
use Rattle.hive_alt.proofs.planning.plan_pack.Goals as goal

pub returns-clause-plan : goal.returns-clause-plan
returns-clause-plan c = (
  c.args.work.now,
  refl,
  record {
    sized = c.in_ok-bytes.ensures.sized;
    heap = packed_bins c.args.version c.args.work.now;
    cells = c.in_ok-bytes.ensures.bins;
    stands = c.in_ok-bytes.ensures.well_formed;
  },
)
