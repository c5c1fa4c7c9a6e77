-- The set that a plan leads to.
use Rattle.std.proofs.Common.{◌≡◌, ℕ, Bool, true, false, List, [], ◌∷◌, map, length, refl, sym, ap, ◌∙◌, arith}
use Rattle.std.specs.Prelude.{◌==◌, Result, Ok, Err, IfOk}
use Rattle.std.proofs.lemmas.Bool.Decides.{nat_tests}
use Rattle.nt_bytes.specs.declared.version.HiveVersion.{HiveVersion}
use Rattle.hive_model.specs.Tree.{Tree}
use Rattle.hive_model.specs.Edit.{Step, edited}
use Rattle.reg_tree.specs.declared.steps.TreeStep.{TreeStep}
use Rattle.reg_tree.specs.Makes.{step_of}
use Rattle.start_model.specs.Sets.{stepped}
use Rattle.failure_effects.specs.declared.opening.Opening.{Opening}
use Rattle.failure_effects.specs.declared.opening.Opening.TheVariants.{Begun}
use Rattle.failure_effects.specs.Opening.{opened_by, taken_of}

no_steps : (version : HiveVersion) (root : Tree) (code : List TreeStep) → (length code == 0) ≡ true
    → stepped version root (map step_of code) ≡ Ok root
no_steps version root [] h = refl
no_steps version root (s ∷ ss) h = absurd (grind (arith, nat_tests, h))

some_steps : (version : HiveVersion) (root : Tree) (code : List TreeStep) → (length code == 0) ≡ false
    → stepped version root (map step_of code) ≡ edited version root (map step_of code)
some_steps version root [] h = absurd cc
some_steps version root (s ∷ ss) h = refl

-- the plan has no steps
pub planned_none : {E : Type 0} (r : Result Opening E) (on_good : Bool) (number n : ℕ) (version : HiveVersion) (root : Tree)
    (code : List TreeStep) (steps : List Step) → IfOk r (λ o. o ≡ Begun (taken_of on_good n root)) → n ≡ number
    → steps ≡ map step_of code → (length code == 0) ≡ true
    → IfOk r (λ o. o ≡ opened_by on_good number (stepped version root steps))
planned_none (Ok o) on_good number n version root code steps here same are none =
    here ∙ ap (λ k. Begun (taken_of on_good k root)) same
    ∙ sym (ap (opened_by on_good number) (ap (stepped version root) are ∙ no_steps version root code none))
planned_none (Err e) on_good number n version root code steps here same are none = tt

-- it has some
pub planned_some : {E : Type 0} (r : Result Opening E) (on_good : Bool) (number n : ℕ) (version : HiveVersion) (root : Tree)
    (code : List TreeStep) (steps : List Step) → IfOk r (λ o. o ≡ opened_by on_good n (edited version root (map step_of code)))
    → n ≡ number → steps ≡ map step_of code → (length code == 0) ≡ false
    → IfOk r (λ o. o ≡ opened_by on_good number (stepped version root steps))
planned_some (Ok o) on_good number n version root code steps here same are some =
    here ∙ ap (λ k. opened_by on_good k (edited version root (map step_of code))) same
    ∙ sym (ap (opened_by on_good number) (ap (stepped version root) are ∙ some_steps version root code some))
planned_some (Err e) on_good number n version root code steps here same are some = tt
