use Rattle.salvage_bins.specs.Ground.{ground_of}
use Rattle.salvage_walk.proofs.RememberedLemmas.{remembers-more}
use Rattle.salvage_walk.proofs.values.try_value.Goals as goal

pub try_data-requires : goal.try_data-requires
try_data-requires c =
    remembers-more (ground_of c.args.cells.now) c.args.used.now c.use_value.new.used c.args.lists.now c.in_ok-form.ensures.1 c.requires
