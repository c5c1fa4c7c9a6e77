-- A start that runs can be saved, but for number and size.
use Rattle.std.proofs.Common.{◌≡◌, ◌≤◌, ◌+◌, ℕ, Bool, true, false, cond, List, [], ◌∷◌, Option, Some, Ok, Err, sym, subst, ◌∙◌, arith}
use Rattle.std.specs.Prelude.{find, IfSome}
use Rattle.nt_bytes.specs.declared.version.HiveVersion.{HiveVersion}
use Rattle.hive_model.specs.Image.{Image}
use Rattle.hive_model.specs.Tree.{Tree, Trees, key, none, more, listed, children, is_named}
use Rattle.hive_model.specs.Valid.{levels, most_levels}
use Rattle.hive_model.specs.Edit.{Refusal, full}
use Rattle.hive_model.specs.Load.{Loads}
use Rattle.start_model.specs.Sets.{SetPlan, set_name, set_of, select_numbers_of, usable_numbers_of, save_plan_of, stepped}
use Rattle.start_model.specs.Machine.{Start}
use Rattle.start_model.specs.Events.{Event}
use Rattle.start_model.specs.Possible.{Possible, Woken, Outcome}
use Rattle.start_model.specs.Act.{Note, RunState}
use Rattle.start_model.specs.Boot.{Choice}
use Rattle.start_model.specs.Run.{run_of}
use Rattle.start_model.specs.Fits.{Fits, woke_in}
use Rattle.start_laws.proofs.StepLemmas.{select_key, set_found}
use Rattle.start_laws.proofs.MadeLemmas.{save_only_full}
use Rattle.start_laws.proofs.ReportLemmas.{possible_by}
use Rattle.kept_laws.specs.good_laws.Ready.{CanBeSaved}
use Rattle.kept_laws.proofs.KeepLemmas.{Runs, StartRuns, IsCloneOf}
use Rattle.kept_laws.proofs.FitLemmas.{EachWake, fits_whole}
use Rattle.kept_laws.proofs.RunLemmas.{run_of-fine}

-- ---- levels

-- at most 512 levels
abbrev Shallow : Tree → Type 0
Shallow t = levels t ≤ 512

found_lower : (name : List ℕ) (ts : Trees) (k : Tree) → find (is_named name) (listed ts) ≡ Some k
    → levels k ≤ most_levels ts
found_lower name none k e = absurd cc
found_lower name (more t ts) k e = by_case (is_named name t) e (λ e. found_lower name ts k e)
  where
    by_case : (b : Bool) → cond b (Some t) (find (is_named name) (listed ts)) ≡ Some k
        → (find (is_named name) (listed ts) ≡ Some k → levels k ≤ most_levels ts) → levels k ≤ most_levels (more t ts)
    by_case true e f = let same : t ≡ k = cc in let P : Tree → Type 0 = λ u. levels u ≤ most_levels (more t ts) in
        subst P same (omega arith)
    by_case false e f = omega (arith, f e)

child_lower : (name : List ℕ) (t k : Tree) → find (is_named name) (children t) ≡ Some k → levels k + 1 ≤ levels t
child_lower name (key h ts) k e = omega (arith, found_lower name ts k e)

-- a set has a level less than its tree
set_lower : (t : Tree) (n : ℕ) (set : Tree) → set_of t n ≡ Some set → levels set + 1 ≤ levels t
set_lower t n set e = child_lower (set_name n) t set (sym (set_found t n) ∙ e)

clone_lower : (clone : Tree) → IsCloneOf Shallow clone → levels clone ≤ 511
clone_lower clone c = omega (arith, c.1.1.0, set_lower c.0 c.1.0 clone c.1.1.1)

-- ---- wakes

pub loaded_shallow : (image : Image) (w : Woken) → Loads image w.state w.dirty → levels w.state.tree ≤ 512
loaded_shallow image w l = l.holds.tree.levels

fits_shallow : (images : List Image) (wakes : List Woken) (ps : List Possible) → Fits images wakes ps
    → EachWake Shallow wakes
fits_shallow [] [] ps f = tt
fits_shallow [] (w ∷ wakes) ps f = absurd f
fits_shallow (i ∷ images) [] ps f = tt
fits_shallow (i ∷ images) (w ∷ wakes) [] f = absurd f
fits_shallow (i ∷ images) (w ∷ wakes) (p ∷ ps) f = (loaded_shallow i w f.0, fits_shallow images wakes ps f.2)

-- ---- a start that runs

start_ready : (live : Tree) (o : Option Start) (s : Start) (clone : Tree) → o ≡ Some s → s.clone ≡ Some clone
    → (h : List Note) → Runs Shallow h live o → CanBeSaved live clone
unfolding select_key
start_ready live o s clone is has h r =
    let P : Option Start → Type 0 = Runs Shallow h live in
    let runs : StartRuns Shallow h live s = subst P is r in
    let C : Option Tree → Type 0 = λ o. IfSome o (IsCloneOf Shallow) in
    record { select = runs.on_set.select; levels = clone_lower clone (subst C has runs.clone) }

pub run_ready : (choice : Option ℕ → Choice) (script : List Event) (placed : Woken) (images : List Image)
    (wakes : List Woken) (outcomes : List Outcome) (last : RunState) (left : List Woken) (over : List Outcome)
    (s : Start) (clone : Tree)
    → Fits images wakes (woke_in (run_of choice script placed wakes outcomes).notes)
    → (run_of choice script placed wakes outcomes).rest ≡ Some (last, left, over) → last.machine.start ≡ Some s
    → s.clone ≡ Some clone → CanBeSaved last.live clone
run_ready choice script placed images wakes outcomes last left over s clone fits is runs has =
    let ps : List Possible = woke_in (run_of choice script placed wakes outcomes).notes in
    let g = run_of-fine Shallow choice script placed wakes outcomes
    (fits_whole wakes ps (possible_by images wakes ps fits)) (fits_shallow images wakes ps fits) in
    start_ready last.live last.machine.start s clone runs has _ (g.rest last left over is).0.runs

pub ready_refused : (version : HiveVersion) (live clone : Tree) (plan : SetPlan) (why : Refusal) → CanBeSaved live clone
    → save_plan_of (select_numbers_of live) (usable_numbers_of live) clone ≡ Ok plan
    → stepped version live plan.steps ≡ Err why → why ≡ full
ready_refused version live clone plan why c is e = save_only_full version live clone plan why c.select c.levels is e
