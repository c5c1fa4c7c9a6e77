use Rattle.why_lacks.proofs.GoneLemmas.{nobody_leads}
use Rattle.why_lacks.proofs.why_items.finding.put_group.Goals as goal

pub returns-in-None-clause-found : goal.returns-in-None-clause-found
returns-in-None-clause-found c =
    nobody_leads c.args.needs.now c.args.at c.args.view.now c.args.group.now c.args.found.now.keys c.in-None.ensures
