use Rattle.std.proofs.Common.{◌≡◌, ℕ, suc, ◌-◌, sym, ap, refl, ◌∙◌, arith}
use Rattle.std.proofs.lemmas.Bool.Decides.{nat_tests}
use Rattle.why_lacks.specs.why_items.Items.{next_of, grown}
use Rattle.why_lacks.proofs.GrowLemmas.{grown_more, grown_over, grown_none}
use Rattle.why_lacks.proofs.why_items.finding.grow.Goals as goal

pub item-preserved : goal.item-preserved
item-preserved c =
    let count : c.item.left ≡ suc (c.item.left - 1) = grind (arith, nat_tests, c.item-test.true) in
    record {
      found = ap (λ (n : ℕ). grown (next_of c.args.needs.now) (c.item.left - 1) n c.look_at.new.found.keys) c.in_ok-next.ensures
          ∙ grown_more (next_of c.args.needs.now) c.item.left (c.item.left - 1) c.item.at c.in-Some.number c.item.found.keys
          (next_of c.args.needs.now c.in-Some.number) c.look_at.new.found.keys count c.in-Some.ensures refl c.in_ok-look_at-in-Some.ensures.found
          ∙ c.item.invariant.found;
      gone = c.in_ok-look_at-in-Some.ensures.gone;
    }

pub returns-in-None : goal.returns-in-None
returns-in-None c =
    let count : c.item.left ≡ suc (c.item.left - 1) = grind (arith, nat_tests, c.item-test.true) in
    grown_over (next_of c.args.needs.now) c.item.left (c.item.left - 1) c.item.at c.item.found.keys count c.in-None.ensures ∙ c.item.invariant.found

pub returns : goal.returns
returns c =
    let none : c.item.left ≡ 0 = grind (arith, nat_tests, c.item-test.false) in
    grown_none (next_of c.args.needs.now) c.item.at c.item.found.keys
    ∙ ap (λ (n : ℕ). grown (next_of c.args.needs.now) n c.item.at c.item.found.keys) (sym none) ∙ c.item.invariant.found
