-- What is left of steps, one by one.
use Rattle.std.proofs.Common.{◌≡◌, ℕ, ◌+◌, true, false, cond, List, [], ◌∷◌, ◌++◌, Some, None, refl, sym, ap, subst, ◌∙◌, append_assoc, arith}
use Rattle.std.specs.Prelude.{Result, Ok, Err, IfOk, map}
use Rattle.std.specs.List.{All}
use Rattle.hive_model.specs.Tree.{Tree}
use Rattle.hive_model.specs.Edit.{Step}
use Rattle.reg_tree.specs.Fitting.{Fits}
use Rattle.reg_tree.specs.Makes.{step_of}
use Rattle.reg_tree.specs.declared.steps.TreeStep.{TreeStep}
use Rattle.reg_tree.proofs.Unlike.{Each, each_from, each_all}
use Rattle.import_steps.specs.declared.left.LeftSteps.{LeftSteps as CodeLeft}
use Rattle.import_steps.specs.Left.{LeftSteps, is_void, tree_after, with_void, left_after, left_of}
use Rattle.hive_model.specs.Valid.{HoldsKeys}
use Rattle.import_steps.specs.declared.marks.Life.TheVariants.{Kept}
use Rattle.import_steps.specs.declared.marks.Marks.{Marks}
use Rattle.import_steps.specs.declared.verdict.Verdict.{Verdict}
use Rattle.import_steps.specs.declared.verdict.Verdict.TheVariants as verdicts
use Rattle.import_steps.specs.Marks.{IsFresh}
use Rattle.import_steps.specs.Verdict.{verdict_of, IsMarkedBy}
use Rattle.import_steps.specs.Views.{seen_in}
use Rattle.import_steps.specs.Made.{left_seen}
use Rattle.import_steps.proofs.JudgeLemmas.{Judged, judge}
use Rattle.import_steps.proofs.ShowLemmas.{Shows, first_shows}
use Rattle.import_steps.proofs.StepLemmas.{step_shows}

-- steps before those that are left, and how many were passed over before
abbrev pub ahead : List Step → ℕ → LeftSteps → LeftSteps
ahead steps n left = record { steps = steps ++ left.steps; passed = n + left.passed }

zero_before : (n : ℕ) → 0 + n ≡ n
zero_before n = omega arith

kept : (done rest : List Step) (n : ℕ) (step : Step) (t u : Tree) → is_void step t ≡ false
    → tree_after step t ≡ Some u
    → ahead (done ++ step ∷ []) n (left_of u rest) ≡ ahead done n (left_of t (step ∷ rest))
kept done rest n step t u some made = rw (some, made, append_assoc) refl

-- ---- between two steps

-- the tree that the steps so far have made is shown, and what is left of the rest on it is what is left of all
pub record Going (b : Tree) (m : Marks) (left : List Step) (passed : ℕ) (rest all : List Step) : Type 0 where
  pub tree : Tree
  pub shows : Shows (seen_in m b) tree
  pub same : ahead left passed (left_of tree rest) ≡ left_of b all

abbrev Before : List Step → ℕ → List Step → List Step → Tree → Tree → Type 0
Before left n rest all b t = ahead left n (left_of t rest) ≡ left_of b all

pub going_first : (b : Tree) (m : Marks) (all : List Step) → IsFresh Kept m → HoldsKeys b → Going b m [] 0 all all
going_first b m all fresh held = record {
  tree = b;
  shows = first_shows m b fresh held;
  same = nothing_before
      (left_of b all);
}
  where
    nothing_before : (left : LeftSteps) → ahead [] 0 left ≡ left
    nothing_before left = rw (zero_before left.passed) refl

pub going_made : (b : Tree) (m n : Marks) (left : List Step) (passed : ℕ) (rest all : List Step) (step : Step)
    (more : List Step)
    → Going b m left passed rest all → rest ≡ step ∷ more → verdict_of step (seen_in m b) ≡ verdicts.Made
    → IsMarkedBy step b m n → Going b n (left ++ step ∷ []) passed more all
going_made b m n left passed rest all step more g is verdict marked =
    let judged : Judged verdicts.Made step g.tree =
    subst (λ (v : Verdict). Judged v step g.tree) verdict (judge step (seen_in m b) g.tree g.shows) in
    record {
      tree = judged.1.0;
      shows = step_shows step m n b g.tree judged.1.0 verdict judged.1.1.1 marked g.shows;
      same = kept left more passed step g.tree judged.1.0 judged.0 judged.1.1.0
          ∙ subst (λ (r : List Step). Before left passed r all b g.tree) is g.same;
    }

-- ---- the same of the steps of the code

map_more : (left : List TreeStep) (step : TreeStep)
    → map step_of (left ++ step ∷ []) ≡ map step_of left ++ step_of step ∷ []
map_more [] step = refl
map_more (first ∷ left) step = ap (λ (l : List Step). step_of first ∷ l) (map_more left step)

pub judge_first : (b : Tree) (m : Marks) (left rest steps : List TreeStep) → IsFresh Kept m → HoldsKeys b → left ≡ []
    → rest ≡ steps → Going b m (map step_of left) 0 (map step_of rest) (map step_of steps)
judge_first b m left rest steps fresh held none all =
    subst (λ (l : List TreeStep). Going b m (map step_of l) 0 (map step_of rest) (map step_of steps)) (sym none)
    (subst (λ (r : List TreeStep). Going b m [] 0 (map step_of r) (map step_of steps)) (sym all)
    (going_first b m (map step_of steps) fresh held))

pub judge_made : (b : Tree) (m n : Marks) (left later : List TreeStep) (passed : ℕ) (rest more steps : List TreeStep)
    (step : TreeStep) → Going b m (map step_of left) passed (map step_of rest) (map step_of steps) → rest ≡ step ∷ more
    → verdict_of (step_of step) (seen_in m b) ≡ verdicts.Made → later ≡ left ++ step ∷ []
    → IsMarkedBy (step_of step) b m n → Going b n (map step_of later) passed (map step_of more) (map step_of steps)
judge_made b m n left later passed rest more steps step g is verdict pushed marked =
    subst (λ (l : List Step). Going b n l passed (map step_of more) (map step_of steps))
    (sym (ap (λ (l : List TreeStep). map step_of l) pushed ∙ map_more left step))
    (going_made b m n (map step_of left) passed (map step_of rest) (map step_of steps) (step_of step)
    (map step_of more) g
    (ap (λ (l : List TreeStep). map step_of l) is) verdict marked)

-- ---- the keys that steps bring along

each_left : (t : Tree) (steps : List Step) → Each Fits steps → Each Fits (left_of t steps).steps
each_left t [] fits = tt
each_left t (step ∷ steps) fits =
    elim (is_void step t)
    as (λ b. Each Fits (cond b (with_void (left_of t steps))
    (left_after step steps (tree_after step t) (λ u. left_of u steps))).steps) [
      | true ↦ each_left t steps fits.1
      | false ↦ elim (tree_after step t) as (λ o. Each Fits (left_after step steps o (λ u. left_of u steps)).steps) [
        | None ↦ fits
        | Some u ↦ (fits.0, each_left u steps fits.1)
      ]
    ]

pub left_fit : {E : Type 0} (t : Tree) (steps : List Step) (result : Result CodeLeft E)
    → IfOk result (λ left. left_seen left ≡ left_of t steps) → All Fits steps
    → IfOk result (λ left. All Fits (map step_of left.steps))
left_fit t steps (Ok left) is fits =
    subst (λ (l : LeftSteps). All Fits l.steps) (sym is)
    (each_all Fits (left_of t steps).steps (each_left t steps (each_from Fits steps fits)))
left_fit t steps (Err e) is fits = tt
