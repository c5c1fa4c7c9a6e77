use Rattle.std.proofs.Common.{◌≡◌, Bool, [], ◌∷◌, Ok, ap, subst, inl, refl, arith}
use Rattle.std.specs.Prelude.{◌⊎◌, OnOk}
use Rattle.hive_model.specs.Edit.{edited, set_value}
use Rattle.hive_model.specs.Tree.{Tree}
use Rattle.reg_tree.specs.Makes.{Makes}
use Rattle.hive_edit.specs.Edits.{IsEditedInPlace, IsPackedForRoom}
use Rattle.hive_edit.specs.Hive.{HiveCells}
use Rattle.hive_edit.specs.NewValue.{set_tree}
use Rattle.hive_edit.specs.Tells.{IsToldStep}
use Rattle.hive_edit.proofs.SteppedLemmas.{if_done, if_undone, lacks_strained, names_anew, packed_for_room, step_full, step_within, stepped_edit, stepped_kept}
use Rattle.hive_edit.proofs.hive.HiveBytes.set_or_pack.Goals as goal
use Rattle.hive_edit.proofs.hive.HiveBytes.set_or_pack.Goals.{After-set_anew, Else-bulk-gt-MOST_BULK, Then-branch}

-- the value was set in place
told : (c : Then-branch) → IsToldStep c.args.self.now
    (set_value c.args.path.now c.args.name.now c.args.kind c.args.bytes.now) c.set_at.new.self
told c = if_done _ _ _ c.if-branch.true c.in_ok-set_at.ensures.stepped

kept : (c : Then-branch) → IsEditedInPlace c.args.self.now
    (set_value c.args.path.now c.args.name.now c.args.kind c.args.bytes.now ∷ []) c.set_at.new.self
kept c =
    stepped_kept c.args.self.now c.set_at.new.self
    (set_value c.args.path.now c.args.name.now c.args.kind c.args.bytes.now) (told c)

packed : (c : After-set_anew) (P : Type 0) → OnOk c.set_anew.result (P ⊎ IsPackedForRoom c.args.self.now
    (set_value c.args.path.now c.args.name.now c.args.kind c.args.bytes.now ∷ []) c.set_anew.new.self)
packed c P =
    let h = c.args.self.now in
    let step = set_value c.args.path.now c.args.name.now c.args.kind c.args.bytes.now in
    let same : c.set_at.new.self ≡ h = c.in_ok-set_at.ensures.kept (ap (λ (b : Bool). Ok b) c.if-branch.false) in
    packed_for_room h c.set_anew.new.self (step ∷ []) c.set_anew.result P
    (subst (λ (g : HiveCells). Makes g.tree c.set_anew.new.self.tree c.set_anew.result
    (edited g.version g.tree (step ∷ []))) same c.set_anew.ensures.made)
    c.set_anew.ensures.anew
    (λ u e. lacks_strained h u step (if_undone _ _ _ c.if-branch.false c.in_ok-set_at.ensures.stepped) e)

-- the edit is not refused
allowed : (c : Else-bulk-gt-MOST_BULK) → (t : Tree) × (edited c.args.self.now.version c.args.self.now.tree
    (set_value c.args.path.now c.args.name.now c.args.kind c.args.bytes.now ∷ []) ≡ Ok t)
allowed c =
    let h = c.args.self.now in (
      set_tree c.args.path.now c.args.name.now c.args.kind c.args.bytes.now h.tree,
      step_within h.version h.tree _ (set_value c.args.path.now c.args.name.now c.args.kind c.args.bytes.now)
          c.bulk_set-bulk.ensures.step (omega (arith, c.bulk_set-bulk.ensures.bulk, c.if-bulk-gt-MOST_BULK.false)),
    )

pub returns-then-bulk-gt-MOST_BULK-clause-made : goal.returns-then-bulk-gt-MOST_BULK-clause-made
returns-then-bulk-gt-MOST_BULK-clause-made c =
    let h = c.args.self.now in (
      step_full h.version h.tree _ (set_value c.args.path.now c.args.name.now c.args.kind c.args.bytes.now)
          c.bulk_set-bulk.ensures.step
          (omega (arith, c.bulk_set-bulk.ensures.bulk, c.if-bulk-gt-MOST_BULK.true)),
      refl,
    )

pub returns-then-branch-clause-made : goal.returns-then-branch-clause-made
returns-then-branch-clause-made c =
    let counted = c.in_ok-set_at.ensures.bulk (ap (λ (b : Bool). Ok b) c.if-branch.true) in
    stepped_edit c.args.self.now c.set_at.new.self
    (set_value c.args.path.now c.args.name.now c.args.kind c.args.bytes.now)
    (told (goal.at.returns-then-branch-clause-made c).Then-branch).stepped
    (omega (arith, counted, c.if-bulk-gt-MOST_BULK.false))

pub returns-then-branch-clause-version : goal.returns-then-branch-clause-version
returns-then-branch-clause-version c = (told (goal.at.returns-then-branch-clause-version c).Then-branch).stepped.version

pub returns-then-branch-clause-cells : goal.returns-then-branch-clause-cells
returns-then-branch-clause-cells c = inl (kept (goal.at.returns-then-branch-clause-cells c).Then-branch)

pub returns-then-branch-clause-room : goal.returns-then-branch-clause-room
returns-then-branch-clause-room c = inl (kept (goal.at.returns-then-branch-clause-room c).Then-branch)

pub returns-then-branch-clause-parents : goal.returns-then-branch-clause-parents
returns-then-branch-clause-parents c = (kept (goal.at.returns-then-branch-clause-parents c).Then-branch).parents

pub returns-then-branch-clause-freed : goal.returns-then-branch-clause-freed
returns-then-branch-clause-freed c = inl (c.in_ok-set_at.ensures.freed (ap (λ (b : Bool). Ok b) c.if-branch.true))

pub returns-clause-room : goal.returns-clause-room
returns-clause-room c = packed (goal.at.returns-clause-room c).After-set_anew _

pub returns-clause-freed : goal.returns-clause-freed
returns-clause-freed c = packed (goal.at.returns-clause-freed c).After-set_anew _

pub returns-clause-parents : goal.returns-clause-parents
returns-clause-parents c = names_anew c.args.self.now c.set_anew.new.self c.set_anew.result c.set_anew.ensures.anew

pub returns-in_err-set_at-clause-only_made : goal.returns-in_err-set_at-clause-only_made
returns-in_err-set_at-clause-only_made c = λ e.
    allowed (goal.at.returns-in_err-set_at-clause-only_made c).Else-bulk-gt-MOST_BULK

pub returns-clause-only_made : goal.returns-clause-only_made
returns-clause-only_made c = λ e. allowed (goal.at.returns-clause-only_made c).Else-bulk-gt-MOST_BULK
