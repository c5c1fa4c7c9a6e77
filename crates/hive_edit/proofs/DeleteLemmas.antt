-- A key deleted in place as an edit of the hive: judged by the bulk, refused, or with no room.
use Rattle.std.proofs.Common.{◌≡◌, ◌<◌, ℕ, ◌+◌, ◌||◌, Bool, true, false, cond, List, [], ◌∷◌, length, Result, Ok, Err, refl, sym, ap, subst, ◌∙◌}
use Rattle.std.specs.Prelude.{nat_lt, ◌==◌, ◌⊎◌, OnOk}
use Rattle.std.specs.Option.{is_none}
use Rattle.nt_bytes.specs.declared.version.HiveVersion.{HiveVersion}
use Rattle.nt_bytes.specs.Reading.{◌>>=◌}
use Rattle.hive_model.specs.Bins.{bins_size}
use Rattle.hive_model.specs.Tree.{Tree, find_key}
use Rattle.hive_model.specs.Size.{bulk_of}
use Rattle.hive_model.specs.Edit.{Step, Refusal, no_key, full, delete_key, without_key, unless, after_step, most_bulk, edited}
use Rattle.hive_model.specs.Footprint.{needed_sizes, room_of, strain_of, unless_refused}
use Rattle.reg_tree.specs.declared.stop.EditStop.{EditStop}
use Rattle.reg_tree.specs.Makes.{Makes}
use Rattle.hive_edit.specs.Hive.{HiveCells}
use Rattle.hive_edit.specs.Edits.{IsPackedAnew, IsPackedForRoom}
use Rattle.hive_edit.specs.Stepped.{LacksStepRoom}
use Rattle.hive_edit.proofs.EditLemmas.{the_tree}
use Rattle.hive_edit.proofs.SteppedLemmas.{packed_for_room}

-- ---- one step as an edit

abbrev edit_of : HiveVersion → Result Tree Refusal → Result Tree Refusal
edit_of version r = (r >>= λ u. Ok u) >>=
    (λ u. cond (nat_lt most_bulk (bulk_of version u)) (Err full) (Ok u))

one_edit : (version : HiveVersion) (t : Tree) (step : Step)
    → edited version t (step ∷ []) ≡ edit_of version (after_step step t)
unfolding edited
one_edit version t step = refl

pub edit_refused : (version : HiveVersion) (t : Tree) (step : Step) (why : Refusal) → after_step step t ≡ Err why
    → edited version t (step ∷ []) ≡ Err why
edit_refused version t step why e = one_edit version t step ∙ ap (edit_of version) e

-- an edit of one step that is not refused is the step
pub edit_step : (version : HiveVersion) (t u : Tree) (step : Step) → edited version t (step ∷ []) ≡ the_tree u
    → after_step step t ≡ the_tree u
edit_step version t u step e = go (after_step step t) (sym (one_edit version t step) ∙ e)
  where
    within : (b : Bool) (v : Tree) → cond b (Err full) (Ok v) ≡ the_tree u → the_tree v ≡ the_tree u
    within true v f = absurd cc
    within false v f = f

    go : (r : Result Tree Refusal) → edit_of version r ≡ the_tree u → r ≡ the_tree u
    go (Ok v) f = within (nat_lt most_bulk (bulk_of version v)) v f
    go (Err why) f = absurd cc

-- the tree that the step leaves is the one without the key
pub step_leaves : (path : List (List ℕ)) (t u : Tree) → after_step (delete_key path) t ≡ the_tree u
    → u ≡ without_key path t
step_leaves path t u e = go ((length path == 0) || is_none (find_key path t)) e
  where
    go : (b : Bool) → unless ((b, no_key) ∷ []) (without_key path t) ≡ the_tree u → u ≡ without_key path t
    go true f = absurd cc
    go false f = cc

-- ---- no room

pub lacks_strain : (h : HiveCells) (step : Step) → LacksStepRoom h step → (u : Tree)
    → edited h.version h.tree (step ∷ []) ≡ the_tree u
    → 16777216 < strain_of h.version (bins_size h.bins) h.tree (step ∷ [])
lacks_strain h step lacks u e =
    let ok = edit_step h.version h.tree u step e in
    subst (λ (n : ℕ). 16777216 < n)
    (sym (ap (λ (r : Result Tree Refusal). unless_refused (bins_size h.bins) r
    (λ v. bins_size h.bins + room_of (needed_sizes h.version h.tree step v))) ok))
    (lacks u ok)

-- what was repacked was so for want of room
pub anew_for_room : (h new : HiveCells) (step : Step) (r : Result (Unit {0}) EditStop) (P : Type 0)
    → Makes h.tree new.tree r (edited h.version h.tree (step ∷ []))
    → OnOk r (IsPackedAnew new) → LacksStepRoom h step → OnOk r (P ⊎ IsPackedForRoom h (step ∷ []) new)
anew_for_room h new step r P made anew lacks =
    packed_for_room h new (step ∷ []) r P made anew (λ u e. lacks_strain h step lacks u e)
