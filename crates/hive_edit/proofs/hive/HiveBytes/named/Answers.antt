use Rattle.hive_edit.proofs.UnsetLemmas.{hive_no_key, hive_no_value}
use Rattle.hive_edit.proofs.hive.HiveBytes.named.Goals as goal

pub returns-in-None-clause-refused : goal.returns-in-None-clause-refused
returns-in-None-clause-refused c =
    let i = c.self.inside in
    hive_no_key i.cells c.cells.result.now i.root i.version i.bulk c.args.self.now c.args.path.now c.args.name.now
    c.self.invariant c.cells.ensures c.self.view_is
    c.in-None.ensures.place

pub returns-in-None-value_at-clause-refused : goal.returns-in-None-value_at-clause-refused
returns-in-None-value_at-clause-refused c =
    let i = c.self.inside in
    hive_no_value i.cells c.cells.result.now i.root i.version i.bulk c.args.self.now c.args.path.now c.args.name.now
    c.in-Some.key c.self.invariant c.cells.ensures
    c.self.view_is c.in-Some.ensures.place c.in-None-value_at.ensures.place
