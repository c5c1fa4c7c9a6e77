use Rattle.std.proofs.Common.{◌++◌}
use Rattle.failure_effects.specs.Givers.{rest_of}
use Rattle.failure_effects.specs.Leans.{leans_from}
use Rattle.failure_effects.proofs.LayerLemmas.{layer_then, layer_last, then_left}
use Rattle.failure_effects.proofs.leaning.push_layers.Goals as goal

pub loop-steps-preserved : goal.loop-steps-preserved
loop-steps-preserved c = record {
  said = layer_then c.args.states.now c.args.needers.now c.args.count c.loop-steps.steps c.loop-steps.walk c.in-Some.next c.in_ok-next.field-0
      c.loop-steps.lines c.next_layer.new.lines
      (c.args.lines.now ++ leans_from c.args.count 1 c.args.states.now c.args.walk.layer (rest_of c.args.needers.now c.args.walk.left.rest.items))
      c.loop-steps-test.true c.in_ok-next.ensures.lines c.loop-steps.invariant.said c.in-Some.is;
  left = then_left c.args.needers.now c.in_ok-next.field-0 c.in-Some.next c.in_ok-next.ensures.left c.in-Some.is;
}

pub returns-in-None : goal.returns-in-None
returns-in-None c =
    layer_last c.args.states.now c.args.needers.now c.args.count c.loop-steps.steps c.loop-steps.walk c.in_ok-next.field-0
    c.loop-steps.lines c.next_layer.new.lines
    (c.args.lines.now ++ leans_from c.args.count 1 c.args.states.now c.args.walk.layer (rest_of c.args.needers.now c.args.walk.left.rest.items))
    c.loop-steps-test.true c.in_ok-next.ensures.lines c.loop-steps.invariant.said c.in-None.is
