use Rattle.std.proofs.Common.{subst, sym}
use Rattle.salvage_bins.specs.Ground.{ground_of}
use Rattle.salvage_walk.specs.Remembered.{AreKnown}
use Rattle.salvage_walk.proofs.RememberedLemmas.{remembers-more}
use Rattle.salvage_walk.proofs.values.take_or_learn.Goals as goal

pub returns-in-Ok-clause-remembered : goal.returns-in-Ok-clause-remembered
returns-in-Ok-clause-remembered c =
    let hive = ground_of c.args.cells.now in
    remembers-more hive c.args.used.now c.take_value.new.used c.catch_up.new.lists c.in-Ok.ensures.grown (record {
      known = subst (AreKnown hive) (sym c.in_ok-catch_up.ensures.same) c.requires.known;
      follows = c.in_ok-catch_up.ensures.follows;
    })
