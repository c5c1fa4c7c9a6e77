use Rattle.std.proofs.Common.{◌≡◌, ℕ, suc, ◌-◌, ◌++◌, sym, ap, ◌∙◌, arith}
use Rattle.std.proofs.lemmas.Bool.Decides.{nat_tests}
use Rattle.why_answer.specs.why_pulled.Pulled.{puller_of, pullers}
use Rattle.why_answer.proofs.PulledLemmas.{pulled_more, pulled_over, pulled_none}
use Rattle.why_answer.proofs.why_pulled.pulled.pullers.Goals as goal

pub place-preserved : goal.place-preserved
place-preserved c =
    let count : c.place.left ≡ suc (c.place.left - 1) = grind (arith, nat_tests, c.place-test.true) in
    let pull = puller_of c.args.view.now c.args.namers.now c.args.found.now in
    pulled_more pull c.place.left (c.place.left - 1) c.place.at c.in-Some.next c.place.out c.push.new.self
    (pullers pull c.args.most c.args.place) count (sym c.in-Some.is ∙ c.in_ok-pull.ensures) c.in_ok-push-in-Some.ensures.ok
    c.place.invariant

pub returns-in-None : goal.returns-in-None
returns-in-None c =
    let count : c.place.left ≡ suc (c.place.left - 1) = grind (arith, nat_tests, c.place-test.true) in
    let pull = puller_of c.args.view.now c.args.namers.now c.args.found.now in
    pulled_over pull c.place.left (c.place.left - 1) c.place.at c.place.out (pullers pull c.args.most c.args.place) count
    (sym c.in-None.is ∙ c.in_ok-pull.ensures) c.place.invariant

pub returns : goal.returns
returns c =
    let none : c.place.left ≡ 0 = grind (arith, nat_tests, c.place-test.false) in
    let pull = puller_of c.args.view.now c.args.namers.now c.args.found.now in
    pulled_none pull c.place.at c.place.out (pullers pull c.args.most c.args.place)
    (ap (λ (n : ℕ). c.place.out ++ pullers pull n c.place.at) (sym none) ∙ c.place.invariant)
