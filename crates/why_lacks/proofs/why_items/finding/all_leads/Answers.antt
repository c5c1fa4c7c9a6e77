use Rattle.why_needs.proofs.TakeLemmas.{taken_more}
use Rattle.why_lacks.specs.why_items.Items.{leads}
use Rattle.why_lacks.proofs.why_items.finding.all_leads.Goals as goal

pub loop-name-preserved : goal.loop-name-preserved
loop-name-preserved c =
    taken_more (leads c.args.needs.now c.args.at c.args.view.now) c.args.names.now c.loop-name.name-index c.name-item.result
    c.loop-name.out c.push_lead.new.out c.loop-name-test.true c.name-item.is c.loop-name.invariant c.in_ok-push_lead.ensures
