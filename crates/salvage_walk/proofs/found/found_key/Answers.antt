use Rattle.salvage_bins.specs.Ground.{ground_of}
use Rattle.salvage_walk.proofs.RememberedLemmas.{remembers-more}
use Rattle.salvage_walk.proofs.found.found_key.Goals as goal

pub key_of-requires : goal.key_of-requires
key_of-requires c =
    remembers-more (ground_of c.args.cells.now) c.args.walk.now.used c.use_node.new.used c.args.lists.now c.in-Ok.ensures.1 c.requires
