use Rattle.salvage_bins.specs.Ground.{ground_of}
use Rattle.salvage_walk.proofs.RememberedLemmas.{remembers-more}
use Rattle.salvage_walk.proofs.values.try_big.Goals as goal

pub try_segments-requires-clause-remembered : goal.try_segments-requires-clause-remembered
try_segments-requires-clause-remembered c =
    let hive = ground_of c.args.cells.now in
    remembers-more hive c.use_big_data.new.used c.use_offsets.new.used c.args.lists.now c.in_ok-entries.ensures.exact.1
    (remembers-more hive c.args.used.now c.use_big_data.new.used c.args.lists.now c.in_ok-big.ensures.1 c.requires)
