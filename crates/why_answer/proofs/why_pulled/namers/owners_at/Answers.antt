use Rattle.std.specs.Prelude.{slice_get}
use Rattle.why_needs.proofs.TakeLemmas.{taken_at}
use Rattle.why_answer.proofs.why_pulled.namers.owners_at.Goals as goal

pub loop-at-preserved : goal.loop-at-preserved
loop-at-preserved c =
    taken_at (slice_get c.args.owners.now) c.args.places.now c.loop-at.at-index 0 c.loop-at.out c.push_at.new.out c.loop-at-test.true
    c.loop-at.invariant c.in_ok-push_at.ensures
