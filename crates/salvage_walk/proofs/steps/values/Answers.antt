use Rattle.salvage_bins.specs.Ground.{ground_of}
use Rattle.salvage_walk.specs.Walked.{state_of}
use Rattle.salvage_walk.proofs.RememberedLemmas.{remembers-more, remembers-short}
use Rattle.salvage_walk.proofs.steps.values.Goals as goal

pub values_at-requires : goal.values_at-requires
values_at-requires c =
    let hive = ground_of c.args.cells.now in
    remembers-short hive c.args.lists.now c.in-Ok.list.short _ c.args.path.now c.args.node.now.value_list _ (state_of c.say_short.new.walk)
    c.in_ok-say_short-in-Ok.ensures
    (remembers-more hive c.args.walk.now.used c.use_values.new.used c.args.lists.now c.in-Ok.ensures.1 c.requires)
