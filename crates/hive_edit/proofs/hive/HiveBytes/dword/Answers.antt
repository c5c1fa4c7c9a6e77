use Rattle.std.proofs.Common.{◌∙◌}
use Rattle.hive_edit.proofs.HiveLemmas.{root_there, dword_there, dword_nowhere}
use Rattle.hive_edit.proofs.hive.HiveBytes.dword.Goals as goal

pub key_at-requires : goal.key_at-requires
key_at-requires c =
    let i = c.self.inside in
    root_there i.cells.bins c.cells.result.now i.root i.version i.bulk c.self.invariant c.cells.ensures

pub returns-in-Some : goal.returns-in-Some
returns-in-Some c =
    let i = c.self.inside in
    c.dword_under.ensures
    ∙ dword_there i.cells c.cells.result.now i.root i.version i.bulk c.args.self.now c.args.path.now c.args.name.now
    c.in-Some.at
    c.self.invariant c.cells.ensures c.self.view_is c.in-Some.ensures.place

pub returns-in-None : goal.returns-in-None
returns-in-None c =
    let i = c.self.inside in
    dword_nowhere i.cells c.cells.result.now i.root i.version i.bulk c.args.self.now c.args.path.now c.args.name.now
    c.self.invariant c.cells.ensures c.self.view_is c.in-None.ensures.place
