use Rattle.hive_edit.proofs.AskedLemmas.{open_stands, node_seen}
use Rattle.hive_edit.proofs.hive.HiveBytes.count_at.Goals as goal

pub above_at-requires : goal.above_at-requires
above_at-requires c =
    let i = c.self.inside in
    open_stands i.cells c.cells.result.now i.root i.version i.bulk c.args.self.now c.args.parent.now c.args.name.now
    c.args.at c.self.invariant c.cells.ensures c.self.view_is c.requires

pub returns : goal.returns
returns c = λ n read.
    let i = c.self.inside in
    (c.above_at.ensures n (node_seen i.cells c.cells.result.now i.root i.version c.args.self.now c.args.at n
    c.cells.ensures c.self.view_is read)).count
