use Rattle.why_needs.proofs.RangeLemmas.{gathered_more}
use Rattle.why_answer.specs.why_pulled.Layers.{start_at}
use Rattle.why_answer.proofs.why_pulled.layers.first_layer.Goals as goal

pub loop-place-preserved : goal.loop-place-preserved
loop-place-preserved c =
    gathered_more (start_at c.args.view.now.plan 2) c.loop-place.place c.loop-place.out c.push_first.new.out c.loop-place.invariant
    c.in_ok-push_first.ensures
