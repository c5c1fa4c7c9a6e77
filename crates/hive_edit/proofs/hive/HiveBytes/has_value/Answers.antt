use Rattle.std.proofs.lemmas.Result.{IfOk-weaker}
use Rattle.hive_edit.proofs.HoldingLemmas.{no_key_holds, no_value_holds, value_holds}
use Rattle.hive_edit.proofs.hive.HiveBytes.has_value.Goals as goal

pub returns-in-None : goal.returns-in-None
returns-in-None c =
    let i = c.self.inside in
    no_key_holds i.cells c.cells.result.now i.root i.version i.bulk c.args.self.now c.args.path.now c.args.name.now
    c.args.kind c.args.bytes.now c.self.invariant c.cells.ensures c.self.view_is c.in-None.ensures.place

pub returns-in-None-value_at : goal.returns-in-None-value_at
returns-in-None-value_at c =
    let i = c.self.inside in
    no_value_holds i.cells c.cells.result.now i.root i.version i.bulk c.args.self.now c.args.path.now c.args.name.now
    c.args.kind c.args.bytes.now c.in-Some.key c.self.invariant c.cells.ensures c.self.view_is c.in-Some.ensures.place
    c.in-None-value_at.ensures.place

pub returns-in-Some-value_at : goal.returns-in-Some-value_at
returns-in-Some-value_at c =
    let i = c.self.inside in
    IfOk-weaker c.value_is.result _ _
    (λ t test. value_holds i.cells c.cells.result.now i.root i.version i.bulk c.args.self.now c.args.path.now
    c.args.name.now c.args.kind c.args.bytes.now c.in-Some.key c.self.invariant c.cells.ensures c.self.view_is
    c.in-Some.ensures.place c.in-Some-value_at.value t c.in-Some-value_at.ensures.place test) c.value_is.ensures
