use Rattle.why_needs.proofs.TakeLemmas.{taken_more}
use Rattle.why_answer.specs.why_pulled.Layers.{demand_place}
use Rattle.why_answer.proofs.why_pulled.layers.demanded.Goals as goal

pub loop-name-preserved : goal.loop-name-preserved
loop-name-preserved c =
    taken_more (demand_place c.args.view.now) c.args.names.now c.loop-name.name-index c.name-item.result c.loop-name.out
    c.push_demand.new.out c.loop-name-test.true c.name-item.is c.loop-name.invariant c.in_ok-push_demand.ensures
