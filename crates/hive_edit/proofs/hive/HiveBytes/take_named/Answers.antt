use Rattle.hive_model.specs.Edit.{delete_value}
use Rattle.hive_edit.proofs.SteppedLemmas.{IsStepMade, stepped_bulk}
use Rattle.hive_edit.proofs.UnsetLemmas.{hive_can_take, is_unset, frees_value}
use Rattle.hive_edit.proofs.hive.HiveBytes.take_named.Goals as goal
use Rattle.hive_edit.proofs.hive.HiveBytes.take_named.Goals.{After-are_bytes}

-- the value is gone
unset : (c : After-are_bytes) → IsStepMade c.args.self.now c.take_out.new.heap c.self.inside.root c.self.inside.version
    c.args.bulk (delete_value c.args.path.now c.args.name.now)
unset c =
    let i = c.self.inside in
    is_unset i.cells c.take_out.new.heap i.root i.version i.bulk c.args.bulk c.args.self.now c.args.path.now
    c.args.name.now c.args.key c.args.value
    c.self.invariant c.self.view_is c.requires.key c.requires.value c.take_out.ensures.taken c.are_bytes.ensures
    c.requires.bulk

pub take_out-requires : goal.take_out-requires
take_out-requires c =
    let i = c.self.inside in
    hive_can_take i.cells i.root i.version i.bulk c.args.self.now c.args.path.now c.args.name.now c.args.key
    c.args.value c.self.invariant c.self.view_is
    c.requires.key c.requires.value

pub invariant_of-self : goal.invariant_of-self
invariant_of-self c = (unset (goal.at.invariant_of-self c).After-are_bytes).hive

pub returns-clause-stepped : goal.returns-clause-stepped
returns-clause-stepped c = (unset (goal.at.returns-clause-stepped c).After-are_bytes).stepped

pub returns-clause-bulk : goal.returns-clause-bulk
returns-clause-bulk c =
    stepped_bulk c.args.self.now c.take_out.new.heap c.self.inside.root c.self.inside.version c.args.bulk _
    (unset (goal.at.returns-clause-bulk c).After-are_bytes)

pub returns-clause-freed : goal.returns-clause-freed
returns-clause-freed c =
    let i = c.self.inside in
    frees_value i.cells c.take_out.new.heap i.root i.version c.args.self.now c.args.path.now c.args.name.now c.args.key
    c.args.value c.self.view_is c.requires.key c.requires.value c.take_out.ensures.taken
