use Rattle.std.proofs.Common.{refl, ap, ◌∙◌, length, arith}
use Rattle.std.proofs.lemmas.List.{length-replicate}
use Rattle.dependencies.specs.Wants.{meets}
use Rattle.dependencies.proofs.WantLemmas.{unmet_first, same_wants, all_tested}
use Rattle.dependencies.proofs.wants.test_all.Goals as goal

pub loop-want-init : goal.loop-want-init
loop-want-init c = record {
  owners = refl;
  count = refl;
  len = ap length c.requires ∙ length-replicate _ _;
  tested = λ k lt. absurd (omega (arith, lt));
  others = λ k le. unmet_first c.args.wants.now.met (length c.args.names.now) k c.requires;
  tests = omega arith;
}

pub returns-clause-wants : goal.returns-clause-wants
returns-clause-wants c =
    let end = c.loop-want.invariant in
    same_wants c.loop-want.wants _ _ _ end.count end.owners
    (all_tested (meets c.args.kind c.args.started.now)
    c.args.names.now c.loop-want.wants.met c.loop-want.want end.len c.loop-want-test.false end.tested)
