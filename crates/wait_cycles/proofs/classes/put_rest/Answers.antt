use Rattle.std.proofs.Common.{arith}
use Rattle.wait_cycles.proofs.ClassLemmas.{done_more, say_mutual}
use Rattle.wait_cycles.proofs.classes.put_rest.Goals as goal

pub loop-root-preserved : goal.loop-root-preserved
loop-root-preserved c = record {
  classes = c.in_ok-put_class.ensures.classes;
  done = done_more c.args.rows.now c.loop-root.root c.loop-root.classes.items _ _ (omega arith)
      c.loop-root.invariant.done c.in_ok-put_class.ensures;
}

pub returns : goal.returns
returns c =
    say_mutual c.args.rows.now c.loop-root.before.items c.loop-root.classes.items c.loop-root.invariant.classes
    (λ u lu. c.loop-root.invariant.done u (omega (arith, lu)))
