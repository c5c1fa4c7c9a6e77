-- What a beginning, a save and an edit of a script make of a tree that a hive can hold is one again.
use Rattle.std.proofs.Common.{◌≡◌, ℕ, Bool, true, false, not, ◌==◌, cond, List, [], ◌∷◌, Option, Some, None, Result, Ok, Err, refl}
use Rattle.std.specs.Prelude.{IfOk}
use Rattle.std.specs.List.{All}
use Rattle.std.proofs.lemmas.List.Elements.{All-nil, All-cons}
use Rattle.nt_bytes.specs.declared.version.HiveVersion.{HiveVersion}
use Rattle.hive_model.specs.Tree.{Tree}
use Rattle.hive_model.specs.Valid.{HoldsKeys, IsValid}
use Rattle.hive_model.specs.Edit.{Step, copy_child, add_child, Refusal, edited}
use Rattle.reg_tree.specs.Fitting.{Fits}
use Rattle.reg_tree.proofs.Edited.{edited_valid}
use Rattle.start_model.specs.Events.{Edit, Set, Delete, Make, Remove, step_of}
use Rattle.start_model.specs.Sets.{SelectNumbers, SetPlan, SetStop, NoControlSet, NoLastKnownGood, SetChange, ChangeStop, set_name, select_numbers_of, usable_numbers_of, has_number, free_number_of, taken_number, begun, plan_with, guarded_plan, begin_plan_of, saved_plan, stepped, changed_by, planned, begin_of, save_of}
use Rattle.select_keys.proofs.FitLemmas.{plan_fits}

-- ---- steps

led : (version : HiveVersion) (t : Tree) (steps : List Step) → IsValid t → All Fits steps
    → IfOk (edited version t steps) IsValid
led version t steps v f = by (edited version t steps) refl
  where
    by : (r : Result Tree Refusal) → edited version t steps ≡ r → IfOk r IsValid
    by (Ok u) is = edited_valid version t u steps v f is
    by (Err why) is = tt

stepped_valid : (version : HiveVersion) (t : Tree) (steps : List Step) → IsValid t → All Fits steps
    → IfOk (stepped version t steps) IsValid
stepped_valid version t [] v f = v
stepped_valid version t (s ∷ ss) v f = led version t (s ∷ ss) v f

one_fits : (s : Step) → Fits s → All Fits (s ∷ [])
one_fits s f = All-cons Fits s [] f (All-nil Fits)

-- an edit of a script brings no key along
edit_fits : (number : ℕ) (edit : Edit) → Fits (step_of number edit)
edit_fits number (Set path name kind bytes) = tt
edit_fits number (Delete path name) = tt
edit_fits number (Make path) = tt
edit_fits number (Remove path) = tt

pub edit_valid : (version : HiveVersion) (t : Tree) (number : ℕ) (edit : Edit) → IsValid t
    → IfOk (edited version t (step_of number edit ∷ [])) IsValid
edit_valid version t number edit v =
    led version t (step_of number edit ∷ []) v (one_fits (step_of number edit) (edit_fits number edit))

-- ---- plans

abbrev PlanFits : SetPlan → Type 0
PlanFits plan = All Fits plan.steps

guarded_fits : (old : SelectNumbers) (usable : List ℕ) (on_good : Bool) (o : Option ℕ)
    → IfOk (guarded_plan old usable on_good o) PlanFits
guarded_fits old usable on_good None = tt
guarded_fits old usable on_good (Some free) =
    let n : ℕ = taken_number old on_good in
    let copy : Step = copy_child (set_name n) (set_name free) in
    plan_fits n usable old (record (begun old on_good) { good = free }) (copy ∷ []) (one_fits copy tt)

begin_fits : (old : SelectNumbers) (usable : List ℕ) (on_good : Bool) → IfOk (begin_plan_of old usable on_good) PlanFits
begin_fits old usable on_good = by (not (has_number usable n)) (old.good == n)
  where
    n : ℕ
    n = taken_number old on_good

    by : (absent same : Bool) → IfOk (cond absent (Err (cond on_good NoLastKnownGood NoControlSet))
        (cond same (guarded_plan old usable on_good (free_number_of usable))
        (Ok (plan_with n usable old (begun old on_good) [])))) PlanFits
    by true same = tt
    by false true = guarded_fits old usable on_good (free_number_of usable)
    by false false = plan_fits n usable old (begun old on_good) [] (All-nil Fits)

saved_fits : (old : SelectNumbers) (usable : List ℕ) (clone : Tree) → HoldsKeys clone → (o : Option ℕ)
    → IfOk (saved_plan old usable clone o) PlanFits
saved_fits old usable clone h None = tt
saved_fits old usable clone h (Some free) =
    let add : Step = add_child (set_name free) clone in
    plan_fits free usable old (record old { good = free }) (add ∷ []) (one_fits add h)

-- ---- what plans lead to

abbrev pub LeavesValid : Result SetChange ChangeStop → Type 0
LeavesValid r = IfOk r (λ (c : SetChange). IsValid c.tree)

changed_valid : (plan : SetPlan) (r : Result Tree Refusal) → IfOk r IsValid → LeavesValid (changed_by plan r)
changed_valid plan (Ok u) v = v
changed_valid plan (Err why) v = tt

planned_valid : (version : HiveVersion) (t : Tree) (r : Result SetPlan SetStop) → IsValid t → IfOk r PlanFits
    → LeavesValid (planned version t r)
planned_valid version t (Ok plan) v f =
    changed_valid plan (stepped version t plan.steps) (stepped_valid version t plan.steps v f)
planned_valid version t (Err why) v f = tt

pub begin_valid : (version : HiveVersion) (t : Tree) (on_good : Bool) → IsValid t
    → LeavesValid (begin_of version t on_good)
begin_valid version t on_good v =
    planned_valid version t _ v (begin_fits (select_numbers_of t) (usable_numbers_of t) on_good)

pub save_valid : (version : HiveVersion) (t clone : Tree) → IsValid t → HoldsKeys clone
    → LeavesValid (save_of version t clone)
save_valid version t clone v h =
    planned_valid version t _ v
    (saved_fits (select_numbers_of t) (usable_numbers_of t) clone h (free_number_of (usable_numbers_of t)))
