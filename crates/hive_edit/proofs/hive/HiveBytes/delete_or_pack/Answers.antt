use Rattle.std.proofs.Common.{◌≡◌, ◌≤◌, ◌<◌, ℕ, Bool, [], ◌∷◌, Ok, sym, ap, subst, inl, refl}
use Rattle.std.specs.Prelude.{◌⊎◌, OnOk}
use Rattle.hive_model.specs.Edit.{delete_key, edited, without_key}
use Rattle.hive_model.specs.Size.{bulk_of}
use Rattle.hive_model.specs.Tree.{Tree}
use Rattle.reg_tree.specs.Makes.{Makes}
use Rattle.hive_edit.specs.Edits.{IsEditedInPlace, IsPackedForRoom}
use Rattle.hive_edit.specs.Hive.{HiveCells}
use Rattle.hive_edit.specs.Stepped.{IsStepped}
use Rattle.hive_edit.proofs.DeleteLemmas.{anew_for_room, step_leaves}
use Rattle.hive_edit.proofs.SteppedLemmas.{if_done, if_undone, names_anew, step_full, stepped_edit, stepped_kept}
use Rattle.hive_edit.proofs.ToldLemmas.{deleted_told}
use Rattle.hive_edit.proofs.hive.HiveBytes.delete_or_pack.Goals as goal
use Rattle.hive_edit.proofs.hive.HiveBytes.delete_or_pack.Goals.{After-delete_anew, Then-branch}

-- the key was deleted in place
stepped : (c : Then-branch) → IsStepped c.args.self.now (delete_key c.args.path.now) c.take_at.new.self
stepped c = if_done _ _ _ c.if-branch.true c.in_ok-take_at.ensures.made

kept : (c : Then-branch) → IsEditedInPlace c.args.self.now (delete_key c.args.path.now ∷ []) c.take_at.new.self
kept c =
    stepped_kept c.args.self.now c.take_at.new.self (delete_key c.args.path.now)
    (deleted_told c.args.self.now c.take_at.new.self c.args.path.now (stepped c))

packed : (c : After-delete_anew) (P : Type 0) → OnOk c.delete_anew.result
    (P ⊎ IsPackedForRoom c.args.self.now (delete_key c.args.path.now ∷ []) c.delete_anew.new.self)
packed c P =
    let h = c.args.self.now in
    let step = delete_key c.args.path.now in
    let same : c.take_at.new.self ≡ h = c.in_ok-take_at.ensures.kept (ap (λ (b : Bool). Ok b) c.if-branch.false) in
    anew_for_room h c.delete_anew.new.self step c.delete_anew.result P
    (subst (λ (g : HiveCells). Makes g.tree c.delete_anew.new.self.tree c.delete_anew.result
    (edited g.version g.tree (step ∷ []))) same c.delete_anew.ensures.made)
    c.delete_anew.ensures.anew (if_undone _ _ _ c.if-branch.false c.in_ok-take_at.ensures.made)

pub returns-then-bulk-gt-MOST_BULK-clause-made : goal.returns-then-bulk-gt-MOST_BULK-clause-made
returns-then-bulk-gt-MOST_BULK-clause-made c =
    let h = c.args.self.now in
    let path = c.args.path.now in (
      step_full h.version h.tree (without_key path h.tree) (delete_key path) c.requires.step
          (subst (λ (z : ℕ). 16773120 < z) c.requires.bulk c.if-bulk-gt-MOST_BULK.true),
      refl,
    )

pub returns-then-branch-clause-made : goal.returns-then-branch-clause-made
returns-then-branch-clause-made c =
    let h = c.args.self.now in
    let path = c.args.path.now in
    let s = stepped (goal.at.returns-then-branch-clause-made c).Then-branch in
    stepped_edit h c.take_at.new.self (delete_key path) s
    (subst (λ (u : Tree). bulk_of h.version u ≤ 16773120)
    (sym (step_leaves path h.tree c.take_at.new.self.tree s.tree))
    (subst (λ (z : ℕ). z ≤ 16773120) c.requires.bulk c.if-bulk-gt-MOST_BULK.false))

pub returns-then-branch-clause-version : goal.returns-then-branch-clause-version
returns-then-branch-clause-version c = (stepped (goal.at.returns-then-branch-clause-version c).Then-branch).version

pub returns-then-branch-clause-cells : goal.returns-then-branch-clause-cells
returns-then-branch-clause-cells c = inl (kept (goal.at.returns-then-branch-clause-cells c).Then-branch)

pub returns-then-branch-clause-parents : goal.returns-then-branch-clause-parents
returns-then-branch-clause-parents c = (kept (goal.at.returns-then-branch-clause-parents c).Then-branch).parents

pub returns-then-branch-clause-drops : goal.returns-then-branch-clause-drops
returns-then-branch-clause-drops c = inl (c.in_ok-take_at.ensures.drops (ap (λ (b : Bool). Ok b) c.if-branch.true))

pub returns-clause-cells : goal.returns-clause-cells
returns-clause-cells c = packed (goal.at.returns-clause-cells c).After-delete_anew _

pub returns-clause-drops : goal.returns-clause-drops
returns-clause-drops c = packed (goal.at.returns-clause-drops c).After-delete_anew _

pub returns-clause-parents : goal.returns-clause-parents
returns-clause-parents c = names_anew c.args.self.now c.delete_anew.new.self c.delete_anew.result c.delete_anew.ensures.anew
