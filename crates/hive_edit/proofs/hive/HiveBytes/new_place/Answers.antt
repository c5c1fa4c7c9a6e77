use Rattle.std.proofs.Common.{arith}
use Rattle.hive_edit.proofs.AskedLemmas.{asks_many, asks_bulk, asks_may}
use Rattle.hive_edit.proofs.LowLemmas.{bulk_low}
use Rattle.hive_edit.proofs.hive.HiveBytes.new_place.Goals as goal

pub returns-then-count-gt2097150 : goal.returns-then-count-gt2097150
returns-then-count-gt2097150 c =
    let i = c.self.inside in
    asks_many i.cells i.root i.version i.bulk c.args.self.now c.args.parent.now c.args.name.now c.args.at
    c.count_at-count.result
    c.self.invariant c.self.view_is c.requires c.count_at-count.ensures c.if-count-gt2097150.true

pub grown_bulk-bulk-requires-clause-low : goal.grown_bulk-bulk-requires-clause-low
grown_bulk-bulk-requires-clause-low c =
    let i = c.self.inside in
    let low = bulk_low i.cells.bins i.root i.version i.bulk c.self.invariant c.bins_fit.ensures in
    omega (arith, low)

pub grown_bulk-bulk-requires-clause-less : goal.grown_bulk-bulk-requires-clause-less
grown_bulk-bulk-requires-clause-less c =
    let i = c.self.inside in
    (asks_bulk i.cells i.root i.version i.bulk c.args.self.now c.args.parent.now c.args.name.now c.args.at
    c.count_at-count.result
    c.self.invariant c.self.view_is c.bins_fit.ensures c.requires c.count_at-count.ensures c.if-count-gt2097150.false).0

pub returns : goal.returns
returns c =
    let i = c.self.inside in
    asks_may i.cells i.root i.version i.bulk c.args.self.now c.args.parent.now c.args.name.now c.args.at
    c.count_at-count.result c.grown_bulk-bulk.result
    c.self.invariant c.self.view_is c.bins_fit.ensures c.requires c.count_at-count.ensures c.if-count-gt2097150.false
    c.grown_bulk-bulk.ensures
