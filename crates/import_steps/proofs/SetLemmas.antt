-- The steps for a set, one by one.
use Rattle.std.proofs.Common.{◌≡◌, ℕ, true, false, cond, List, [], ◌∷◌, ◌++◌, sym, subst}
use Rattle.std.specs.Prelude.{IfOk, Result, Ok, Err, map}
use Rattle.std.specs.List.{All}
use Rattle.hive_model.specs.Edit.{Step, set_value, delete_value, make_key, delete_key, copy_child, add_child}
use Rattle.reg_tree.specs.Fitting.{Fits}
use Rattle.reg_tree.proofs.Unlike.{Each, each_from, each_all}
use Rattle.reg_tree.specs.Makes.{step_of}
use Rattle.import_steps.specs.Current.{SetSteps, deletes_current, step_in, steps_in, with_step}
use Rattle.import_steps.specs.Made.{made_steps}
use Rattle.import_steps.specs.declared.current.SetSteps.{SetSteps as CodeSteps}

-- steps before those
abbrev pub ahead : List Step → SetSteps → SetSteps
ahead steps made = record { steps = steps ++ made.steps; protected = made.protected }

fits_in : (set : List ℕ) (step : Step) → Fits step → Fits (step_in set step)
fits_in set (set_value path name kind bytes) fits = tt
fits_in set (delete_value path name) fits = tt
fits_in set (make_key parent name) fits = tt
fits_in set (delete_key path) fits = tt
fits_in set (copy_child from to) fits = tt
fits_in set (add_child name tree) fits = fits

each_fits : (set : List ℕ) (steps : List Step) → Each Fits steps → Each Fits (steps_in set steps).steps
each_fits set [] fits = tt
each_fits set (step ∷ steps) fits =
    elim (deletes_current step)
    as (λ b. Each Fits (cond b (record { steps = []; protected = true })
    (with_step (step_in set step) (steps_in set steps))).steps)
    [ true ↦ tt | false ↦ (fits_in set step fits.0, each_fits set steps fits.1) ]

all_fit : (set : List ℕ) (steps : List Step) → All Fits steps → All Fits (steps_in set steps).steps
all_fit set steps fits =
    each_all Fits (steps_in set steps).steps (each_fits set steps (each_from Fits steps fits))

pub made_fit : {E : Type 0} (set : List ℕ) (steps : List Step) (result : Result CodeSteps E)
    → IfOk result (λ made. made_steps made ≡ steps_in set steps) → All Fits steps
    → IfOk result (λ made. All Fits (map step_of made.steps))
made_fit set steps (Ok made) is fits =
    subst (λ (s : SetSteps). All Fits s.steps) (sym is) (all_fit set steps fits)
made_fit set steps (Err e) is fits = tt
