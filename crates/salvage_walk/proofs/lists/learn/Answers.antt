use Rattle.salvage_bins.specs.Ground.{ground_of}
use Rattle.salvage_walk.proofs.RememberedLemmas.{remembers-list, same-payload}
use Rattle.salvage_walk.proofs.lists.learn.Goals as goal

pub returns : goal.returns
returns c =
    let hive = ground_of c.args.cells.now in
    remembers-list hive c.args.used.now c.args.lists.now c.args.at c.in_ok-least.least c.in_ok-list.list c.insert-2.new.self
    c.insert.new.self c.watch_entries.new.watches
    (same-payload hive c.args.at c.in-Ok.payload.now c.in_ok-list.list c.in-Ok.ensures c.in_ok-list.ensures.stand)
    c.in_ok-list.ensures.full c.in_ok-least.ensures.clear c.in_ok-least.ensures.watched c.in_ok-least.ensures.others
    c.in_ok-insert.ensures.updates.0 c.in_ok-insert-2.ensures.updates.0 c.requires
