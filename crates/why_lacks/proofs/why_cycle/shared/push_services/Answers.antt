use Rattle.why_lacks.specs.why_cycle.Shared.{service_need}
use Rattle.why_lacks.proofs.SharedLemmas.{mapped_more}
use Rattle.why_lacks.proofs.why_cycle.shared.push_services.Goals as goal

pub loop-to-preserved : goal.loop-to-preserved
loop-to-preserved c =
    mapped_more (service_need c.args.items.now.keys c.args.groups) c.args.leads.now c.loop-to.to-index 0 c.in_ok-service_need.field-0
    c.args.row.now c.loop-to.row c.push.new.self c.loop-to-test.true c.in_ok-service_need.ensures c.loop-to.invariant c.in_ok-push.ensures.ok
