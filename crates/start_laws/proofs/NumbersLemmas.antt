-- The numbers of a plan are those of `Select` in the tree that its steps lead to.
use Rattle.std.proofs.Common.{◌≡◌, ◌<◌, ◌^◌, Bool, true, Ok, sym, ap, ◌∙◌}
use Rattle.nt_bytes.specs.declared.version.HiveVersion.{HiveVersion}
use Rattle.hive_model.specs.Tree.{Tree}
use Rattle.hive_model.specs.Edit.{after_steps}
use Rattle.start_model.specs.Sets.{SetPlan, SetChange, select_numbers_of, usable_numbers_of, has_number, taken_number, begun, begin_plan_of, save_plan_of, stepped, begin_of, save_of}
use Rattle.start_laws.specs.Changes.{Begins}
use Rattle.start_laws.proofs.StepLemmas.{steps_made}
use Rattle.start_laws.proofs.BeginLemmas.{BeginCase, guarded, plain, begin_case, begins, begins_guarded, by_plan}
use Rattle.start_laws.proofs.SaveLemmas.{save_case, saves}

-- ---- a beginning

-- the numbers of a beginning's plan are read back from the tree, if Default was below 2^32
plan_numbers : (version : HiveVersion) (t u : Tree) (on_good : Bool) (plan : SetPlan)
    → begin_plan_of (select_numbers_of t) (usable_numbers_of t) on_good ≡ Ok plan → stepped version t plan.steps ≡ Ok u
    → (select_numbers_of t).default < 2 ^ 32 → plan.numbers ≡ select_numbers_of u
plan_numbers version t u on_good plan is made fits =
    let b = begin_case (select_numbers_of t) (usable_numbers_of t) on_good plan is in
    split b.usable_one b.kind
  where
    all : after_steps t plan.steps ≡ Ok u
    all = steps_made version plan.steps t u made

    s : Begins t on_good plan.chosen u
    s = begins version t u on_good plan is made

    split : has_number (usable_numbers_of t) (taken_number (select_numbers_of t) on_good) ≡ true
        → BeginCase (select_numbers_of t) (usable_numbers_of t) on_good plan → plan.numbers ≡ select_numbers_of u
    split usable (guarded free free_is same p) =
        let g = begins_guarded t u on_good free usable free_is same
        (ap (λ (q : SetPlan). after_steps t q.steps) (sym p) ∙ all) in
        let n : taken_number (select_numbers_of t) on_good ≡ (select_numbers_of u).current =
        sym s.taken ∙ sym s.current in
        let d : taken_number (select_numbers_of t) on_good ≡ (select_numbers_of u).default =
        sym s.taken ∙ sym s.default in
        let f : (begun (select_numbers_of t) on_good).failed ≡ (select_numbers_of u).failed = sym (s.failed fits) in
        let l : free ≡ (select_numbers_of u).good = sym g.1 in
        ap (λ (q : SetPlan). q.numbers) p ∙ (λ i. record { current = n i; default = d i; failed = f i; good = l i })
    split usable (plain other p) =
        let n : taken_number (select_numbers_of t) on_good ≡ (select_numbers_of u).current =
        sym s.taken ∙ sym s.current in
        let d : taken_number (select_numbers_of t) on_good ≡ (select_numbers_of u).default =
        sym s.taken ∙ sym s.default in
        let f : (begun (select_numbers_of t) on_good).failed ≡ (select_numbers_of u).failed = sym (s.failed fits) in
        let l : (select_numbers_of t).good ≡ (select_numbers_of u).good =
        sym (s.unguarded (λ e. other (e ∙ s.taken))) in
        ap (λ (q : SetPlan). q.numbers) p ∙ (λ i. record { current = n i; default = d i; failed = f i; good = l i })

-- the same of a beginning, whose line `select` says them
pub begin_numbers : (version : HiveVersion) (t : Tree) (on_good : Bool) (change : SetChange)
    → begin_of version t on_good ≡ Ok change → (select_numbers_of t).default < 2 ^ 32
    → change.numbers ≡ select_numbers_of change.tree
begin_numbers version t on_good change e fits =
    let p = by_plan version t (begin_plan_of (select_numbers_of t) (usable_numbers_of t) on_good) change e in
    sym p.numbers ∙ plan_numbers version t change.tree on_good p.plan p.is p.made fits

-- ---- a save

-- the numbers of a save are read back from its tree, whatever they are
pub save_numbers : (version : HiveVersion) (t clone : Tree) (change : SetChange) → save_of version t clone ≡ Ok change
    → change.numbers ≡ select_numbers_of change.tree
save_numbers version t clone change e =
    let p = by_plan version t (save_plan_of (select_numbers_of t) (usable_numbers_of t) clone) change e in
    let c = save_case (select_numbers_of t) (usable_numbers_of t) clone p.plan p.is in
    let s = saves version t clone change.tree p.plan p.is p.made in
    let current : (select_numbers_of t).current ≡ (select_numbers_of change.tree).current = sym s.current in
    let default : (select_numbers_of t).default ≡ (select_numbers_of change.tree).default = sym s.default in
    let failed : (select_numbers_of t).failed ≡ (select_numbers_of change.tree).failed = sym s.failed in
    let good : c.free ≡ (select_numbers_of change.tree).good =
    sym (ap (λ (q : SetPlan). q.chosen) c.plan_is) ∙ sym s.good in
    sym p.numbers ∙ ap (λ (q : SetPlan). q.numbers) c.plan_is
    ∙ (λ i. record { current = current i; default = default i; failed = failed i; good = good i })
