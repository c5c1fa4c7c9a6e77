use Rattle.salvage_bins.specs.Ground.{ground_of}
use Rattle.salvage_walk.specs.Walked.{state_of}
use Rattle.salvage_walk.proofs.RememberedLemmas.{remembers-more, remembers-said}
use Rattle.salvage_walk.proofs.root.from_place.Goals as goal

pub below-requires : goal.below-requires
below-requires c =
    let hive = ground_of c.args.cells.now in
    remembers-said hive c.args.lists.now _ _ (state_of c.say.new.self) c.in_ok-say-in-Ok.ensures
    (remembers-more hive c.args.walk.now.used c.use_node.new.used c.args.lists.now c.in-Ok.ensures.1 c.requires)
