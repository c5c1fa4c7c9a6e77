use Rattle.std.proofs.Common.{◌≡◌, None, Some}
use Rattle.hive_model.specs.Bins.{look_up}
use Rattle.hive_model.specs.Tree.{Tree, find_key}
use Rattle.hive_edit.specs.Found.{FitsBelow}
use Rattle.hive_edit.proofs.HiveLemmas.{root_there, found_there, subtree_there, subtree_nowhere, subtree_fits, no_fault_there}
use Rattle.hive_edit.proofs.hive.HiveBytes.subtree.Goals as goal
use Rattle.hive_edit.proofs.hive.HiveBytes.subtree.Goals.{After-cells, In-Some}

found : (c : In-Some) → find_key c.args.path.now c.args.self.now.tree ≡ None → ⊥
found c =
    let i = c.self.inside in
    found_there i.cells c.cells.result.now i.root i.version i.bulk c.args.self.now c.args.path.now c.in-Some.at
    c.self.invariant c.cells.ensures c.self.view_is c.in-Some.ensures.place

fits : (c : After-cells) (t : Tree) → find_key c.args.path.now c.args.self.now.tree ≡ Some t → FitsBelow c.args.path.now t
fits c t =
    let i = c.self.inside in
    subtree_fits i.cells i.root i.version i.bulk c.args.self.now c.args.path.now t c.self.invariant c.self.view_is

pub key_at-requires : goal.key_at-requires
key_at-requires c =
    let i = c.self.inside in
    root_there i.cells.bins c.cells.result.now i.root i.version i.bulk c.self.invariant c.cells.ensures

pub unreachable-requires : goal.unreachable-requires
unreachable-requires c =
    no_fault_there (look_up c.self.inside.version c.cells.result.now)
    c.in-Some.at c.in-Err-Fault.field-0-0 c.in-Some.ensures.stands
    (rw c.in-Err-Fault.field-0-is at c.in-Err-Fault.ensures.exact)

pub returns-in-Ok-clause-none : goal.returns-in-Ok-clause-none
returns-in-Ok-clause-none c = λ none. absurd (found (goal.at.returns-in-Ok-clause-none c).In-Some none)

pub returns-in-Ok-clause-found : goal.returns-in-Ok-clause-found
returns-in-Ok-clause-found c =
    let i = c.self.inside in
    subtree_there i.cells c.cells.result.now i.root i.version i.bulk c.args.self.now c.args.path.now c.in-Some.at
    c.in-Ok.key c.self.invariant c.cells.ensures c.self.view_is c.in-Some.ensures.place c.in-Ok.ensures.exact.0

pub returns-in-Ok-clause-fits : goal.returns-in-Ok-clause-fits
returns-in-Ok-clause-fits c = fits (goal.at.returns-in-Ok-clause-fits c).After-cells

pub returns-in-Err-Memory-clause-none : goal.returns-in-Err-Memory-clause-none
returns-in-Err-Memory-clause-none c = λ none. absurd (found (goal.at.returns-in-Err-Memory-clause-none c).In-Some none)

pub returns-in-Err-Memory-clause-fits : goal.returns-in-Err-Memory-clause-fits
returns-in-Err-Memory-clause-fits c = fits (goal.at.returns-in-Err-Memory-clause-fits c).After-cells

pub returns-in-None-clause-found : goal.returns-in-None-clause-found
returns-in-None-clause-found c =
    let i = c.self.inside in
    subtree_nowhere i.cells c.cells.result.now i.root i.version i.bulk c.args.self.now c.args.path.now c.self.invariant
    c.cells.ensures c.self.view_is c.in-None.ensures.place

pub returns-in-None-clause-fits : goal.returns-in-None-clause-fits
returns-in-None-clause-fits c = fits (goal.at.returns-in-None-clause-fits c).After-cells
