use Rattle.std.proofs.Common.{◌≡◌, ℕ, suc, ◌+◌, List, [], ◌∷◌, ◌++◌, map, take, drop, sym, ap, subst, ◌∙◌, arith}
use Rattle.std.proofs.lemmas.Result.{err_from_is_err_and}
use Rattle.hive_model.specs.Bins.{bins_size}
use Rattle.hive_model.specs.Edit.{Step, after_steps}
use Rattle.reg_tree.specs.Fitting.{Fits}
use Rattle.reg_tree.specs.Makes.{IsRefused, step_of}
use Rattle.edited_cells.specs.Sizes.{AreGrown}
use Rattle.hive_edit.specs.Steps.{AreStepped, AreStrained}
use Rattle.hive_edit.specs.Tells.{IsToldStep}
use Rattle.hive_edit.proofs.SteppedLemmas.{if_done, if_undone, stepped_more, refused_behind, stopped_strained, fits_here, map_more, map_parts}
use Rattle.hive_edit.proofs.StrainedLemmas.{step_grown, all_taken}
use Rattle.hive_edit.proofs.hive.HiveBytes.make_steps.Goals as goal
use Rattle.hive_edit.proofs.hive.HiveBytes.make_steps.Goals.{After-make_step, Else-not-branch, After-saturating_add-room}

-- this step, between those before it and those after it
parts : (c : After-make_step) → let k = c.loop-step.step-index in map step_of c.args.steps.now
    ≡ map step_of (take k c.args.steps.now) ++ step_of c.step-item.result ∷ map step_of (drop (suc k) c.args.steps.now)
parts c =
    map_parts step_of c.args.steps.now c.loop-step.step-index c.step-item.result c.loop-step-test.true c.step-item.is

told : (c : Else-not-branch) → IsToldStep c.loop-step.self (step_of c.step-item.result) c.make_step.new.self
told c = if_done _ _ _ c.if-not-branch.false c.in_ok-make_step.ensures.made

grown : (c : After-saturating_add-room) → let h = c.args.self.now in AreGrown h.version (bins_size h.bins) h.tree
    (map step_of (take c.loop-step.step-index c.args.steps.now) ++ step_of c.step-item.result ∷ [])
    (bins_size h.bins + c.saturating_add-room.result) c.make_step.new.self.tree
grown c =
    let stepped = (told (goal.at.After-saturating_add-room c).Else-not-branch).stepped in
    step_grown c.args.self.now c.loop-step.self c.make_step.new.self
    (map step_of (take c.loop-step.step-index c.args.steps.now)) (step_of c.step-item.result) c.loop-step.room
    c.least_room-more.result c.saturating_add-room.result c.loop-step.invariant.made c.loop-step.invariant.grown stepped
    (c.least_room-more.ensures.least c.loop-step.self stepped c.bulk-before.ensures) c.saturating_add-room.ensures

pub make_step-requires : goal.make_step-requires
make_step-requires c = record {
  fits = fits_here Fits step_of c.args.steps.now c.loop-step.step-index c.step-item.result c.requires.fits
      c.loop-step-test.true c.step-item.is;
}

pub returns-in_err-make_step-clause-made : goal.returns-in_err-make_step-clause-made
returns-in_err-make_step-clause-made c =
    let k = c.loop-step.step-index in
    let stop = c.in_err-make_step.field-0.0 in
    let p = err_from_is_err_and c.from_residual.result c.from_residual.ensures.1 in
    rw (p.1, p.2) (subst (λ (l : List Step). IsRefused (after_steps c.args.self.now.tree l) stop)
    (sym (parts (goal.at.returns-in_err-make_step-clause-made c).After-make_step))
    (refused_behind (map step_of (take k c.args.steps.now)) (map step_of (drop (suc k) c.args.steps.now))
    (step_of c.step-item.result) c.args.self.now c.loop-step.self stop c.loop-step.invariant.made
    c.in_err-make_step.ensures.made))

pub returns-then-not-branch-clause-made : goal.returns-then-not-branch-clause-made
returns-then-not-branch-clause-made c =
    subst (AreStrained c.args.self.now) (sym (parts (goal.at.returns-then-not-branch-clause-made c).After-make_step))
    (stopped_strained (map step_of (take c.loop-step.step-index c.args.steps.now))
    (map step_of (drop (suc c.loop-step.step-index) c.args.steps.now)) (step_of c.step-item.result) c.args.self.now
    c.loop-step.self c.loop-step.invariant.made (if_undone _ _ _ c.if-not-branch.true c.in_ok-make_step.ensures.made))

pub returns-then-room-gt-MOST_BINS-clause-made : goal.returns-then-room-gt-MOST_BINS-clause-made
returns-then-room-gt-MOST_BINS-clause-made c =
    let way = goal.at.returns-then-room-gt-MOST_BINS-clause-made c in
    let k = c.loop-step.step-index in
    subst (AreStrained c.args.self.now) (sym (parts way.After-make_step))
    (all_taken c.args.self.now c.make_step.new.self (map step_of (take k c.args.steps.now))
    (map step_of (drop (suc k) c.args.steps.now)) (step_of c.step-item.result) c.saturating_add-room.result
    (grown way.After-saturating_add-room) c.if-room-gt-MOST_BINS.true)

pub loop-step-preserved : goal.loop-step-preserved
loop-step-preserved c =
    let way = goal.at.loop-step-preserved c in
    let xs = c.args.steps.now in
    let k = c.loop-step.step-index in
    let item = c.step-item.result in
    let h = c.args.self.now in
    let next : suc k ≡ k + 1 = omega arith in
    let more : map step_of (take (k + 1) xs) ≡ map step_of (take k xs) ++ step_of item ∷ [] =
    ap (λ (n : ℕ). map step_of (take n xs)) (sym next)
    ∙ map_more step_of xs k item c.loop-step-test.true c.step-item.is in record {
      made = subst (λ (l : List Step). AreStepped h l c.make_step.new.self) (sym more)
          (stepped_more (map step_of (take k xs)) h c.loop-step.self c.make_step.new.self (step_of item)
          c.loop-step.invariant.made (told way.Else-not-branch));
      grown = subst (λ (l : List Step). AreGrown h.version (bins_size h.bins) h.tree l
          (bins_size h.bins + c.saturating_add-room.result) c.make_step.new.self.tree) (sym more)
          (grown way.After-saturating_add-room);
      base = c.in_ok-make_step.ensures.base ∙ c.loop-step.invariant.base;
      longer = omega (arith, c.loop-step.invariant.longer, c.in_ok-make_step.ensures.grown);
    }
