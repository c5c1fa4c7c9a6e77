use Rattle.hive_edit.proofs.HiveLemmas.{root_there}
use Rattle.hive_edit.proofs.ToldLemmas.{IsHiveTold, node_room, hive_told, none_told}
use Rattle.hive_edit.proofs.hive.HiveBytes.tell.Goals as goal
use Rattle.hive_edit.proofs.hive.HiveBytes.tell.Goals.{After-raise_both}

pub key_at-requires : goal.key_at-requires
key_at-requires c =
    let i = c.self.inside in
    root_there i.cells.bins c.cells.result.now i.root i.version i.bulk c.self.invariant c.cells.ensures

pub raise_both-requires-clause-node : goal.raise_both-requires-clause-node
raise_both-requires-clause-node c =
    let i = c.self.inside in
    node_room i.version i.cells.bins c.cells.result.now c.in-Some.at c.cells.ensures
    (rw c.in-Some.is at c.key_at.ensures.stands)

told : (c : After-raise_both) → let i = c.self.inside in
    IsHiveTold c.args.self.now c.raise_both.new.heap i.root i.version i.bulk c.args.path.now c.args.field c.args.first
    c.args.second
told c =
    let i = c.self.inside in
    hive_told i.cells c.raise_both.new.heap c.cells.result.now i.root i.version i.bulk c.args.self.now c.args.path.now
    c.in-Some.at c.args.field c.args.first c.args.second c.self.invariant c.self.view_is c.cells.ensures
    (rw c.in-Some.is at c.key_at.ensures.place) (rw c.in-Some.is at c.key_at.ensures.stands) c.requires
    c.raise_both.ensures.raised

pub invariant_of-self : goal.invariant_of-self
invariant_of-self c = (told (goal.at.invariant_of-self c).After-raise_both).hive

pub returns-in-None-clause-told : goal.returns-in-None-clause-told
returns-in-None-clause-told c =
    let i = c.self.inside in
    none_told i.cells c.cells.result.now i.root i.version c.args.self.now c.args.path.now c.args.field c.args.first
    c.args.second c.self.view_is c.cells.ensures (rw c.in-None.is at c.key_at.ensures.place)

pub returns-in-Some-clause-told : goal.returns-in-Some-clause-told
returns-in-Some-clause-told c = (told (goal.at.returns-in-Some-clause-told c).After-raise_both).told
