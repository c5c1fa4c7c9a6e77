use Rattle.std.proofs.Common.{◌∷◌, [], List, subst, sym, take, arith}
use Rattle.std.proofs.lemmas.List.{take_all}
use Rattle.salvage_walk.specs.declared.claims.Claim.{Claim}
use Rattle.salvage_walk.specs.Clear.{IsClear}
use Rattle.salvage_walk.proofs.ClearLemmas.{clear-both, take-on}
use Rattle.salvage_walk.proofs.lists.clear_of_rest.Goals as goal

pub uses-preserved : goal.uses-preserved
uses-preserved c =
    let v = c.uses.invariant in
    let few = c.clear_of-clear.ensures.few in
    record {
      few = omega (arith, few, v.few);
      clear = λ h i s low e.
          subst (λ (t : List Claim). IsClear t s) (sym (take-on c.uses.number c.args.used.now c.in-Some.claim (sym c.in-Some.ensures)))
          (clear-both (take c.uses.number c.args.used.now) (c.in-Some.claim ∷ []) s (v.clear h i s (omega (arith, low, few)) e)
          (c.clear_of-clear.ensures.clear i s e (c.requires i s e) low));
    }

pub returns-clause-clear : goal.returns-clause-clear
returns-clause-clear c = λ h i s low e.
    subst (λ (t : List Claim). IsClear t s)
    (take_all c.uses.number c.args.used.now (omega (arith, c.uses-test.false, c.len.ensures)))
    (c.uses.invariant.clear h i s low e)
