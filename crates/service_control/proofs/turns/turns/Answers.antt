use Rattle.std.proofs.Common.{length}
use Rattle.std.specs.Prelude.{count_by}
use Rattle.service_control.specs.Turns.{turns}
use Rattle.dependencies.specs.Attempts.{all_waiting}
use Rattle.service_control.proofs.WaitLemmas.{turn_more, turns_over}
use Rattle.service_control.proofs.turns.turns.Goals as goal

pub turns-preserved : goal.turns-preserved
turns-preserved c =
    turn_more c.turns.waiting c.tried.new.self c.turns.places c.push.new.self
    (turns (length c.args.needs) (all_waiting c.args.needs c.args.started.now)) c.in-Some.at
    c.in-Some.ensures.place c.tried.ensures.state c.in-Some.ensures.waits c.in_ok-push-in-Some.ensures.ok
    c.turns.invariant

pub returns-in-None : goal.returns-in-None
returns-in-None c =
    let all = turns (length c.args.needs) (all_waiting c.args.needs c.args.started.now) in
    turns_over c.turns.waiting c.turns.places all
    (count_by (λ b. b) c.turns.waiting.waits)
    c.in-None.ensures.place c.turns.invariant
