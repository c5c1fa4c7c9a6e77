use Rattle.std.proofs.Common.{◌≢◌, arith, ◌∙◌, get_or-set_other}
use Rattle.std.proofs.lemmas.List.{length-set}
use Rattle.dependencies.proofs.FirstLemmas.{node_settles}
use Rattle.dependencies.proofs.place_set.settle.Goals as goal

pub loop-at-preserved : goal.loop-at-preserved
loop-at-preserved c =
    let old = c.loop-at.invariant in
    record {
      len = length-set c.loop-at.firsts c.loop-at.at c.min.result ∙ old.len;
      at = omega arith;
      nodes = node_settles c.loop-at.firsts c.args.count c.loop-at.at c.min.result old.len c.loop-at-test.true old.at
          old.nodes c.min.ensures;
      leaves = λ k le. let other : k ≢ c.loop-at.at = omega (arith, le, old.at) in
          get_or-set_other c.loop-at.firsts c.loop-at.at k c.min.result 0 other ∙ old.leaves k le;
    }
