use Rattle.std.proofs.Common.{ap, ◌∙◌}
use Rattle.std.specs.Prelude.{Ok}
use Rattle.hive_edit.proofs.HiveLemmas.{root_there, found_there, names_there, names_nowhere}
use Rattle.hive_edit.proofs.hive.HiveBytes.names_below.Goals as goal
use Rattle.std.proofs.lemmas.Result.{IfOk-weaker}

pub key_at-requires : goal.key_at-requires
key_at-requires c =
    let i = c.self.inside in
    root_there i.cells.bins c.cells.result.now i.root i.version i.bulk c.self.invariant c.cells.ensures

pub returns-in-Some-clause-none : goal.returns-in-Some-clause-none
returns-in-Some-clause-none c = λ none.
    let i = c.self.inside in
    absurd (found_there i.cells c.cells.result.now i.root i.version i.bulk c.args.self.now c.args.path.now c.in-Some.at
    c.self.invariant c.cells.ensures c.self.view_is c.in-Some.ensures.place none)

pub returns-in-Some-clause-names : goal.returns-in-Some-clause-names
returns-in-Some-clause-names c =
    let i = c.self.inside in
    let same = names_there i.cells c.cells.result.now i.root i.version i.bulk c.args.self.now c.args.path.now
    c.in-Some.at
    c.self.invariant c.cells.ensures c.self.view_is c.in-Some.ensures.place in
    IfOk-weaker c.child_names.result _ _ (λ names e. e ∙ same) c.child_names.ensures

pub returns-in-None-clause-none : goal.returns-in-None-clause-none
returns-in-None-clause-none c = λ none. ap Ok c.new.ensures

pub returns-in-None-clause-names : goal.returns-in-None-clause-names
returns-in-None-clause-names c =
    let i = c.self.inside in
    c.new.ensures
    ∙ names_nowhere i.cells c.cells.result.now i.root i.version i.bulk c.args.self.now c.args.path.now c.self.invariant
    c.cells.ensures c.self.view_is c.in-None.ensures.place
