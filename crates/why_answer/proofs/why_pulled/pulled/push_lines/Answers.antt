use Rattle.why_answer.specs.why_pulled.Pulled.{puller_line}
use Rattle.why_answer.proofs.PulledLemmas.{pushed_more}
use Rattle.why_answer.proofs.why_pulled.pulled.push_lines.Goals as goal

pub loop-place-preserved : goal.loop-place-preserved
loop-place-preserved c =
    pushed_more (puller_line c.args.view.now) c.args.places.now c.loop-place.place-index 0 c.args.lines.now c.loop-place.lines
    c.push_line.new.lines c.loop-place-test.true c.loop-place.invariant c.in_ok-push_line.ensures
