use Rattle.std.proofs.Common.{◌≡◌, Bool, Ok, ap, ◌∙◌}
use Rattle.hive_edit.specs.Hive.{HiveCells, WasHive}
use Rattle.hive_edit.proofs.SettledLemmas.{base_within, restored, was_there}
use Rattle.hive_edit.proofs.SteppedLemmas.{if_done, if_undone}
use Rattle.hive_edit.proofs.hive.HiveBytes.make_settled.Goals as goal
use Rattle.hive_edit.proofs.hive.HiveBytes.make_settled.Goals.{After-restore, After-restore-in-Err, In-Err, In-Ok-false}

-- there is no room
was_undone : (c : In-Ok-false) → let i = c.self.inside in WasHive c.make_within.new.self.base i.root i.version i.bulk
was_undone c =
    let i = c.self.inside in
    was_there i.cells i.root i.version i.bulk c.args.self.now c.make_within.new.self c.self.invariant c.self.view_is
    c.requires.settled c.in-Ok-false.ensures.base

undone : (c : After-restore) → c.restore.new.self ≡ c.args.self.now
undone c =
    let i = c.self.inside in
    let was = was_undone (goal.at.After-restore c).In-Ok-false in
    c.restore.ensures was
    ∙ restored i.cells i.root i.version i.bulk c.args.self.now c.make_within.new.self c.self.view_is c.requires.settled
    c.in-Ok-false.ensures.base was

-- the edit is refused
was_refused : (c : In-Err) → let i = c.self.inside in WasHive c.make_within.new.self.base i.root i.version i.bulk
was_refused c =
    let i = c.self.inside in
    was_there i.cells i.root i.version i.bulk c.args.self.now c.make_within.new.self c.self.invariant c.self.view_is
    c.requires.settled c.in-Err.ensures.base

refused : (c : After-restore-in-Err) → c.restore-in-Err.new.self ≡ c.args.self.now
refused c =
    let i = c.self.inside in
    let was = was_refused (goal.at.After-restore-in-Err c).In-Err in
    c.restore-in-Err.ensures was
    ∙ restored i.cells i.root i.version i.bulk c.args.self.now c.make_within.new.self c.self.view_is c.requires.settled
    c.in-Err.ensures.base was

pub restore-requires : goal.restore-requires
restore-requires c = record {
  was = was_undone (goal.at.restore-requires c).In-Ok-false;
  long = base_within c.args.self.now c.make_within.new.self c.requires.settled c.in-Ok-false.ensures.base
      c.in-Ok-false.ensures.grown;
}

pub restore-requires-in-Err : goal.restore-requires-in-Err
restore-requires-in-Err c = record {
  was = was_refused (goal.at.restore-requires-in-Err c).In-Err;
  long = base_within c.args.self.now c.make_within.new.self c.requires.settled c.in-Err.ensures.base
      c.in-Err.ensures.grown;
}

pub returns-in-Ok-true-clause-all : goal.returns-in-Ok-true-clause-all
returns-in-Ok-true-clause-all c = (
  if_done _ _ _ c.in-Ok-true.field-0-test c.in-Ok-true.ensures.made,
  c.in-Ok-true.ensures.within (ap (λ (b : Bool). Ok b) c.in-Ok-true.field-0-test),
)

pub returns-in-Ok-false-clause-all : goal.returns-in-Ok-false-clause-all
returns-in-Ok-false-clause-all c = (
  if_undone _ _ _ c.in-Ok-false.field-0-test c.in-Ok-false.ensures.made,
  undone (goal.at.returns-in-Ok-false-clause-all c).After-restore,
)

pub returns-in-Ok-false-clause-base : goal.returns-in-Ok-false-clause-base
returns-in-Ok-false-clause-base c =
    ap (λ (h : HiveCells). h.base) (undone (goal.at.returns-in-Ok-false-clause-base c).After-restore)

pub returns-in-Err-clause-all : goal.returns-in-Err-clause-all
returns-in-Err-clause-all c =
    (c.in-Err.ensures.made, refused (goal.at.returns-in-Err-clause-all c).After-restore-in-Err)

pub returns-in-Err-clause-base : goal.returns-in-Err-clause-base
returns-in-Err-clause-base c =
    ap (λ (h : HiveCells). h.base) (refused (goal.at.returns-in-Err-clause-base c).After-restore-in-Err)
