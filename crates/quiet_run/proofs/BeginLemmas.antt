-- The beginning of a start, as it is watched.
use Rattle.std.proofs.Common.{◌≡◌, ℕ, suc, Bool, true, not, ◌==◌, cond, List, [], ◌∷◌, length, map, Some, Result, Ok, sym, ap, ◌∙◌, arith}
use Rattle.std.proofs.lemmas.Bool.Decides.{nat_tests}
use Rattle.hive_model.specs.Tree.{Tree}
use Rattle.hive_model.specs.Edit.{Step, Refusal}
use Rattle.reg_tree.specs.declared.steps.TreeStep.{TreeStep}
use Rattle.reg_tree.specs.Makes.{step_of}
use Rattle.report_words.specs.declared.words.CommitWord.TheVariants as commits
use Rattle.start_model.specs.Sets.{SelectNumbers, SetPlan, select_numbers_of, taken_number, stepped, changed_by}
use Rattle.start_model.specs.Act.{RunState}
use Rattle.start_model.specs.Commit.{commit}
use Rattle.start_model.specs.Boot.{begin_start, begin_by}
use Rattle.quiet_run.specs.declared.last.LastStart.{LastStart}
use Rattle.quiet_run.specs.Watch.{Watched, watch}

same_ok : (t u : Tree) → ◌≡◌ {A = Result Tree Refusal} (Ok t) (Ok u) → t ≡ u
same_ok t u e = cc

-- what remains after the steps: a commit where there were some, and the beginning
made : Bool → ℕ → Bool → SelectNumbers → RunState → Tree → LastStart → Watched
made changed number on_good numbers m tree l =
    watch (cond changed (commit commits.Begin tree (record m { live = tree }) (begin_start number on_good numbers))
    (begin_start number on_good numbers (record m { live = tree }))) l

some : (n : ℕ) → not (suc n == 0) ≡ true
some n = grind (arith, nat_tests)

plan_with : ℕ → SelectNumbers → List TreeStep → SetPlan
plan_with chosen numbers code = record { chosen = chosen; numbers = numbers; steps = map step_of code }

by_steps : (on_good : Bool) (m : RunState) (chosen : ℕ) (numbers : SelectNumbers) (code : List TreeStep) (tree : Tree) (l : LastStart)
    → stepped m.version m.live (map step_of code) ≡ Ok tree
    → made (not (length code == 0)) chosen on_good numbers m tree
    (record l { set = Some (taken_number (select_numbers_of m.live) on_good, on_good) })
    ≡ watch (begin_by on_good m (changed_by (plan_with chosen numbers code) (stepped m.version m.live (map step_of code)))) l
unfolding made plan_with
by_steps on_good m chosen numbers [] tree l is =
    ap (λ (x : Tree). watch (begin_start chosen on_good numbers (record m { live = x }))
    (record l { set = Some (taken_number (select_numbers_of m.live) on_good, on_good) })) (sym (same_ok m.live tree is))
by_steps on_good m chosen numbers (s ∷ ss) tree l is =
    let L : LastStart = record l { set = Some (taken_number (select_numbers_of m.live) on_good, on_good) } in
    ap (λ (b : Bool). made b chosen on_good numbers m tree L) (some (length ss))
    ∙ sym (ap (λ (b : Bool). watch (cond b (commit commits.Begin tree m (begin_start chosen on_good numbers)) (begin_start chosen on_good numbers m)) L)
    (some (length (map step_of ss))))
    ∙ ap (λ (r : Result Tree Refusal). watch (begin_by on_good m (changed_by (plan_with chosen numbers (s ∷ ss)) r)) l) (sym is)

-- the steps of the plan were made
pub begun_by : (on_good : Bool) (m : RunState) (plan : SetPlan) (code : List TreeStep) (tree : Tree) (l : LastStart) (changed : Bool)
    (number taken : ℕ) (new : Watched) → number ≡ plan.chosen → map step_of code ≡ plan.steps → changed ≡ not (length code == 0)
    → taken ≡ taken_number (select_numbers_of m.live) on_good → stepped m.version m.live (map step_of code) ≡ Ok tree
    → ((numbers : SelectNumbers)
    → new ≡ watch (cond changed (commit commits.Begin tree (record m { live = tree }) (begin_start number on_good numbers))
    (begin_start number on_good numbers (record m { live = tree }))) (record l { set = Some (taken, on_good) }))
    → new ≡ watch (begin_by on_good m (changed_by plan (stepped m.version m.live plan.steps))) l
unfolding made plan_with
begun_by on_good m plan code tree l changed number taken new chosen steps some number_is is h =
    let L : ℕ → LastStart = λ n. record l { set = Some (n, on_good) } in
    h plan.numbers
    ∙ ap (λ (b : Bool). made b number on_good plan.numbers m tree (L taken)) some
    ∙ ap (λ (n : ℕ). made (not (length code == 0)) n on_good plan.numbers m tree (L taken)) chosen
    ∙ ap (λ (n : ℕ). made (not (length code == 0)) plan.chosen on_good plan.numbers m tree (L n)) number_is
    ∙ by_steps on_good m plan.chosen plan.numbers code tree l is
    ∙ ap (λ (x : List Step). watch (begin_by on_good m (changed_by (record { chosen = plan.chosen; numbers = plan.numbers; steps = x })
    (stepped m.version m.live x))) l) steps
