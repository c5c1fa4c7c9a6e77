use Rattle.std.proofs.Common.{◌≡◌, ℕ, suc, ◌-◌, [], drop, sym, ap, ◌∙◌, arith}
use Rattle.std.proofs.lemmas.Bool.Decides.{nat_tests}
use Rattle.start_model.specs.Demand.{member}
use Rattle.wait_cycles.proofs.InverseLemmas.{if_ok}
use Rattle.wait_cycles.specs.Graph.{waits_in}
use Rattle.why_lacks.specs.why_cycle.Walk.{step, gone_round}
use Rattle.why_lacks.proofs.RoundLemmas.{went_on, went_round, went_nowhere, went_far}
use Rattle.why_lacks.proofs.why_cycle.walk.gone_round.Goals as goal

pub returns-in-Some : goal.returns-in-Some
returns-in-Some c =
    let next = step (waits_in c.args.count c.args.rows.now) (member c.args.freed.now) in
    let count : c.item.left ≡ suc (c.item.left - 1) = grind (arith, nat_tests, c.item-test.true) in
    if_ok c.from.result (λ row. row ≡ drop c.in-Some.at c.as_slice.result.now) (λ row. row ≡ gone_round next c.args.most [] 0)
    (λ row e. e ∙ ap (drop c.in-Some.at) c.as_slice.ensures.keys
    ∙ went_round next c.item.left (c.item.left - 1) c.item.place c.in-Some.at c.item.path.keys count c.in-Some.ensures ∙ c.item.invariant)
    c.from.ensures

pub returns-in-None-step : goal.returns-in-None-step
returns-in-None-step c =
    let next = step (waits_in c.args.count c.args.rows.now) (member c.args.freed.now) in
    let count : c.item.left ≡ suc (c.item.left - 1) = grind (arith, nat_tests, c.item-test.true) in
    c.new.ensures
    ∙ went_nowhere next c.item.left (c.item.left - 1) c.item.place c.item.path.keys count c.in-None.ensures c.in-None-step.ensures
    ∙ c.item.invariant

pub item-preserved : goal.item-preserved
item-preserved c =
    let next = step (waits_in c.args.count c.args.rows.now) (member c.args.freed.now) in
    let count : c.item.left ≡ suc (c.item.left - 1) = grind (arith, nat_tests, c.item-test.true) in
    went_on next c.item.left (c.item.left - 1) c.item.place c.in-Some-step.next c.item.path.keys c.put.new.path.keys count c.in-None.ensures
    c.in-Some-step.ensures c.in_ok-put-in-None.ensures ∙ c.item.invariant

pub returns : goal.returns
returns c =
    let next = step (waits_in c.args.count c.args.rows.now) (member c.args.freed.now) in
    let none : c.item.left ≡ 0 = grind (arith, nat_tests, c.item-test.false) in
    c.new-2.ensures ∙ went_far next c.item.place c.item.path.keys
    ∙ ap (λ (n : ℕ). gone_round next n c.item.path.keys c.item.place) (sym none) ∙ c.item.invariant
