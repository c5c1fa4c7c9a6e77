use Rattle.std.specs.Prelude.{nat_eq, position}
use Rattle.why_needs.proofs.TakeLemmas.{taken_at}
use Rattle.why_lacks.proofs.why_cycle.waits.places_in.Goals as goal

pub loop-number-preserved : goal.loop-number-preserved
loop-number-preserved c =
    taken_at (λ number. position (nat_eq number) c.args.items.now.keys) c.args.numbers.now c.loop-number.number-index 0 c.loop-number.out
    c.push_place.new.out c.loop-number-test.true c.loop-number.invariant c.in_ok-push_place.ensures
