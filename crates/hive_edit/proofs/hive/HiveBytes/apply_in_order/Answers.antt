use Rattle.std.proofs.Common.{◌≡◌, List, map, Ok, refl, ap, subst, inl}
use Rattle.std.proofs.lemmas.Result.{err_from_is_err_and}
use Rattle.hive_model.specs.Edit.{edited}
use Rattle.hive_model.specs.Size.{bulk_of}
use Rattle.reg_tree.specs.declared.steps.TreeStep.{TreeStep}
use Rattle.reg_tree.specs.Makes.{IsRefused, Makes, step_of}
use Rattle.hive_edit.specs.Edits.{IsEditedInPlace}
use Rattle.hive_edit.specs.Hive.{HiveCells}
use Rattle.hive_edit.specs.Steps.{AreMadeOrNone, AreStepped, AreStrained}
use Rattle.hive_edit.proofs.SteppedLemmas.{all_made, none_made, ordered_made, ordered_kept, same_version, names_anew, packed_for_room}
use Rattle.hive_edit.proofs.hive.HiveBytes.apply_in_order.Goals as goal
use Rattle.hive_edit.proofs.hive.HiveBytes.apply_in_order.Goals.{After-apply_anew, Else-done, In_ok-done, Then-done}

all : (c : In_ok-done)
    → AreMadeOrNone c.args.self.now (map step_of c.args.steps) (Ok c.in_ok-done.done) c.make_all.new.self
all c =
    subst (λ (l : List TreeStep). AreMadeOrNone c.args.self.now (map step_of l) (Ok c.in_ok-done.done)
    c.make_all.new.self) c.as_slice.ensures c.in_ok-done.ensures.all

-- all the steps are made
there : (c : Then-done) → AreStepped c.args.self.now (map step_of c.args.steps) c.make_all.new.self
there c =
    (all_made c.args.self.now c.make_all.new.self (map step_of c.args.steps) _ c.if-done.true
    (all (goal.at.Then-done c).In_ok-done)).0

kept : (c : Then-done) → IsEditedInPlace c.args.self.now (map step_of c.args.steps) c.make_all.new.self
kept c = ordered_kept (map step_of c.args.steps) c.args.self.now c.make_all.new.self c.stands.ensures (there c)

-- or none is
none : (c : Else-done) → AreStrained c.args.self.now (map step_of c.args.steps) × (c.make_all.new.self ≡ c.args.self.now)
none c =
    none_made c.args.self.now c.make_all.new.self (map step_of c.args.steps) _ c.if-done.false
    (all (goal.at.Else-done c).In_ok-done)

repacked : (c : After-apply_anew) → Makes c.args.self.now.tree c.apply_anew.new.self.tree c.apply_anew.result
    (edited c.args.self.now.version c.args.self.now.tree (map step_of c.args.steps))
repacked c =
    subst (λ (h : HiveCells). Makes h.tree c.apply_anew.new.self.tree c.apply_anew.result
    (edited h.version h.tree (map step_of c.args.steps))) (none (goal.at.After-apply_anew c).Else-done).1
    c.apply_anew.ensures.made

pub returns-in_err-done-clause-made : goal.returns-in_err-done-clause-made
returns-in_err-done-clause-made c =
    let h = c.args.self.now in
    let p = err_from_is_err_and c.from_residual.result c.from_residual.ensures.1 in
    rw (p.1, p.2) (
      subst (λ (l : List TreeStep). IsRefused (edited h.version h.tree (map step_of l)) c.in_err-done.field-0.0)
          c.as_slice.ensures c.in_err-done.ensures.all.0,
      ap (λ (g : HiveCells). g.tree) c.in_err-done.ensures.all.1,
    )

pub returns-in_err-done-clause-refused : goal.returns-in_err-done-clause-refused
returns-in_err-done-clause-refused c =
    let p = err_from_is_err_and c.from_residual.result c.from_residual.ensures.1 in
    rw (p.1) c.in_err-done.ensures.all.1

pub returns-in_err-done-clause-version : goal.returns-in_err-done-clause-version
returns-in_err-done-clause-version c = ap (λ (g : HiveCells). g.version) c.in_err-done.ensures.all.1

pub returns-then-done-clause-made : goal.returns-then-done-clause-made
returns-then-done-clause-made c =
    let way = (goal.at.returns-then-done-clause-made c).Then-done in
    let new = c.make_all.new.self in
    ordered_made (map step_of c.args.steps) c.args.self.now new (bulk_of new.version new.tree) (there way) refl
    (all_made c.args.self.now new (map step_of c.args.steps) _ c.if-done.true (all (goal.at.Then-done way).In_ok-done)).1

pub returns-then-done-clause-version : goal.returns-then-done-clause-version
returns-then-done-clause-version c =
    same_version (map step_of c.args.steps) c.args.self.now c.make_all.new.self
    (there (goal.at.returns-then-done-clause-version c).Then-done)

pub returns-then-done-clause-cells : goal.returns-then-done-clause-cells
returns-then-done-clause-cells c = inl (kept (goal.at.returns-then-done-clause-cells c).Then-done)

pub returns-then-done-clause-parents : goal.returns-then-done-clause-parents
returns-then-done-clause-parents c = (kept (goal.at.returns-then-done-clause-parents c).Then-done).parents

pub returns-clause-made : goal.returns-clause-made
returns-clause-made c = repacked (goal.at.returns-clause-made c).After-apply_anew

pub returns-clause-cells : goal.returns-clause-cells
returns-clause-cells c =
    packed_for_room c.args.self.now c.apply_anew.new.self (map step_of c.args.steps) c.apply_anew.result _
    (repacked (goal.at.returns-clause-cells c).After-apply_anew) c.apply_anew.ensures.anew
    (none (goal.at.returns-clause-cells c).Else-done).0

pub returns-clause-parents : goal.returns-clause-parents
returns-clause-parents c = names_anew c.args.self.now c.apply_anew.new.self c.apply_anew.result c.apply_anew.ensures.anew
