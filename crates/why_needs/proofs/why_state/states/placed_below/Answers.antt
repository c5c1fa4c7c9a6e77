use Rattle.std.proofs.Common.{◌≡◌, ℕ, suc, ◌-◌, sym, ap, ◌∙◌, arith}
use Rattle.std.proofs.lemmas.Bool.Decides.{nat_tests}
use Rattle.why_needs.specs.why_state.States.{placed_below}
use Rattle.why_needs.proofs.PlaceLemmas.{below_more, below_here, below_none}
use Rattle.why_needs.proofs.why_state.states.placed_below.Goals as goal

pub returns-in-Some : goal.returns-in-Some
returns-in-Some c =
    let count : c.plan.left ≡ suc (c.plan.left - 1) = grind (arith, nat_tests, c.plan-test.true) in
    below_here c.args.run.now.views c.plan.left (c.plan.left - 1) c.args.name.now c.in-Some.place count (sym c.in-Some.ensures)
    ∙ c.plan.invariant

pub plan-preserved : goal.plan-preserved
plan-preserved c =
    let count : c.plan.left ≡ suc (c.plan.left - 1) = grind (arith, nat_tests, c.plan-test.true) in
    below_more c.args.run.now.views c.plan.left (c.plan.left - 1) c.args.name.now count (sym c.in-None.ensures) ∙ c.plan.invariant

pub returns : goal.returns
returns c =
    let none : c.plan.left ≡ 0 = grind (arith, nat_tests, c.plan-test.false) in
    below_none c.args.run.now.views c.args.name.now
    ∙ ap (λ (n : ℕ). placed_below c.args.run.now.views n c.args.name.now) (sym none) ∙ c.plan.invariant
