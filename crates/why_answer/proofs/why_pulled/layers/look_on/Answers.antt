use Rattle.std.proofs.Common.{◌≡◌, ℕ, suc, ◌-◌, sym, ap, ◌∙◌, arith}
use Rattle.std.proofs.lemmas.Bool.Decides.{nat_tests}
use Rattle.why_answer.specs.why_pulled.Layers.{next_of, layered}
use Rattle.why_answer.proofs.PulledLemmas.{layered_more, layered_over, layered_none}
use Rattle.why_answer.proofs.why_pulled.layers.look_on.Goals as goal

pub place-preserved : goal.place-preserved
place-preserved c =
    let count : c.place.left ≡ suc (c.place.left - 1) = grind (arith, nat_tests, c.place-test.true) in
    ap (λ (n : ℕ). layered (next_of c.args.view.now) (c.place.left - 1) n c.look_at.new.found) c.in_ok-next.ensures
    ∙ layered_more (next_of c.args.view.now) c.place.left (c.place.left - 1) c.place.at c.in-Some.place c.place.found c.look_at.new.found
    count c.in-Some.ensures c.in_ok-look_at-in-Some.ensures ∙ c.place.invariant

pub returns-in-None : goal.returns-in-None
returns-in-None c =
    let count : c.place.left ≡ suc (c.place.left - 1) = grind (arith, nat_tests, c.place-test.true) in
    layered_over (next_of c.args.view.now) c.place.left (c.place.left - 1) c.place.at c.place.found count c.in-None.ensures
    ∙ c.place.invariant

pub returns : goal.returns
returns c =
    let none : c.place.left ≡ 0 = grind (arith, nat_tests, c.place-test.false) in
    layered_none (next_of c.args.view.now) c.place.at c.place.found
    ∙ ap (λ (n : ℕ). layered (next_of c.args.view.now) n c.place.at c.place.found) (sym none) ∙ c.place.invariant
